-- The header of a box (ISO/IEC 14496-12, 4.2): the frame that it gives, and the frame of the whole box in a buffer.
use Rattle.std.specs.Prelude.{ℕ, ◌+◌, ◌-◌, ◌^◌, ◌==◌, ◌||◌, nat_lt, nat_le, List, [], ◌∷◌, length, Result, Ok, Err}
use Rattle.std.specs.Prelude.{if◌then◌else◌}
use Rattle.mp4_frame.specs.Bytes.{number, bytes_of_fields}
use Rattle.mp4_frame.specs.BoxType.{name_of, code_of}
use Rattle.mp4_frame.specs.Reading.{Fault, End, Invalid, Reading, ◌>>=◌, expect_bytes, check, done}
use Rattle.mp4_frame.specs.declared.box_type.BoxType.{BoxType}
use Rattle.mp4_frame.specs.declared.box_header.BoxHeader.{BoxHeader}
use Rattle.mp4_frame.specs.declared.frame.Frame.{Frame}

-- The header at o gives the code of the box, its start, and its size from there. The start is 8 bytes before the
-- content, so the box ends at start + size in both forms of a header.

-- the form with a 32-bit size before the code
abbrev pub compact_head : List ℕ → ℕ → Reading Frame
compact_head bytes o =
    done (record { code = number bytes (o + 4) 4; begin = o; start = o; size = number bytes o 4 })

-- the form with a 64-bit size after the code; that size is 0 or at least 16
abbrev pub large_head : List ℕ → ℕ → Reading Frame
large_head bytes o = do
  _ ← expect_bytes bytes (o + 8) 8
  _ ← check ((number bytes (o + 8) 8 == 0) || nat_le 16 (number bytes (o + 8) 8))
  done (record { code = number bytes (o + 4) 4; begin = o; start = o + 8; size = number bytes (o + 8) 8 - 8 })

-- a 32-bit size of 1 means that the header has the form with a 64-bit size
unfoldable pub head : List ℕ → ℕ → Reading Frame
head bytes o = do
  _ ← expect_bytes bytes o 8
  if number bytes o 4 == 1 then large_head bytes o else compact_head bytes o

abbrev pub header_of : Frame → BoxHeader
header_of h = record { name = name_of h.code; size = h.size }

-- the header at o
abbrev pub header : List ℕ → ℕ → Reading BoxHeader
header bytes o = head bytes o >>= λ h. done (header_of h)

-- the number of bytes of the header at o
abbrev pub header_length : List ℕ → ℕ → ℕ
header_length bytes o = if number bytes o 4 == 1 then 16 else 8

-- The fields of a written header. The first is a size of 4 bytes, or a 1 if a size of 8 bytes follows the code. The
-- size of 8 bytes counts these 8 bytes too.
abbrev pub fields_header : BoxHeader → List (ℕ × ℕ)
fields_header h =
    if nat_lt h.size (2 ^ 32) then (4, h.size) ∷ (4, code_of h.name) ∷ [] else (4, 1) ∷ (4, code_of h.name)
    ∷ (8, h.size + 8) ∷ []

abbrev pub bytes_header : BoxHeader → List ℕ
bytes_header h = bytes_of_fields (fields_header h)

-- version and flags, which follow the header of a full box
abbrev pub header_ext : List ℕ → ℕ → Reading (ℕ × ℕ)
header_ext bytes o = do
  _ ← expect_bytes bytes o 4
  done (number bytes o 1, number bytes (o + 1) 3)

-- the name of a frame's box, and the offsets where its content begins and where it ends
abbrev pub name_in : Frame → BoxType
name_in f = name_of f.code

abbrev pub content_in : Frame → ℕ
content_in f = f.start + 8

abbrev pub end_in : Frame → ℕ
end_in f = f.start + f.size

-- The frame of a whole box in a buffer of len bytes, from the frame that its header gives. A size of 0 means up to the
-- end of the buffer.
unfoldable pub frame_of_head : ℕ → Frame → Result Frame Fault
frame_of_head len h =
    if h.size == 0 then Ok (record h { size = len - h.start }) else
    if nat_lt h.size 8 then Err Invalid else
    if nat_lt (2 ^ 64 - 1) (end_in h) then Err Invalid else
    if nat_lt len (end_in h) then Err End else
    Ok h

abbrev pub frame_of : ℕ → Result Frame Fault → Result Frame Fault
frame_of len (Ok h) = frame_of_head len h
frame_of len (Err k) = Err k

-- the frame of the whole box at o
abbrev pub frame : List ℕ → ℕ → Result Frame Fault
frame bytes o = frame_of (length bytes) (head bytes o).outcome
