-- The box at a position of a level, by the header there (ISO/IEC 14496-12, 4.2), or the reason why none can be read.
-- Its children are not searched yet.
use Rattle.std.specs.Prelude.{ℕ, ◌+◌, ◌-◌, ◌^◌, ◌==◌, ◌&&◌, min, nat_lt, List, length, take, None, Some, Result, Ok}
use Rattle.std.specs.Prelude.{Err, if◌then◌else◌}
use Rattle.std.specs.declared.option.Option.{Option}
use Rattle.mp4_frame.specs.Bytes.{number}
use Rattle.mp4_frame.specs.FourCC.{four_cc_of}
use Rattle.mp4_frame.specs.Heads.{head, content_in, end_in}
use Rattle.mp4_frame.specs.Reading.{Fault, End, Invalid, NotFound}
use Rattle.mp4_frame.specs.declared.four_cc.FourCC.{FourCC}
use Rattle.mp4_frame.specs.declared.frame.Frame.{Frame}
use Rattle.mp4_walk.specs.declared.level.Level.{Level}
use Rattle.mp4_walk.specs.declared.tree_box.TreeBox.{TreeBox}
use Rattle.mp4_walk.specs.declared.tree_box.BoxState.{BoxState}
use Rattle.mp4_walk.specs.declared.tree_box.BoxState.TheVariants as states

-- the code of the box at o, if the bytes have the 8 bytes of a header there
abbrev pub code_at : List ℕ → ℕ → Option FourCC
code_at bytes o = if nat_lt (length bytes) (o + 8) then None else Some (four_cc_of (number bytes (o + 4) 4))

-- the item at o with this code, header and length
abbrev pub found_as : Level → ℕ → Option FourCC → ℕ → ℕ → BoxState → TreeBox
found_as l o code header long why = record {
  depth = l.depth;
  code = code;
  position = o;
  header_length = header;
  length = long;
  front = None;
  children = None;
  state = why;
  context = l.context;
}

-- the item for bytes that cannot be read as a box: the rest of the level
abbrev pub unread : Level → ℕ → Option FourCC → BoxState → TreeBox
unread l o code why = found_as l o code (l.end - o) (l.end - o) why

-- the box whose header is h. A size of 0 is allowed only at the top level, and means up to the end of the file. Any
-- other size below 8 is too small. A box that ends after its level is cut
unfoldable pub found_of_head : Level → ℕ → Frame → TreeBox
found_of_head l o h =
    let code = Some (four_cc_of h.code) in
    let header = content_in h - o in
    let long = end_in h - o in
    if (h.size == 0) && (l.depth == 0) then found_as l o code header (l.end - o) states.Leaf else
    if nat_lt h.size 8 then unread l o code states.Small else
    if nat_lt l.end (end_in h) then found_as l o code header (min long (2 ^ 64 - 1)) states.Cut else
    found_as l o code header long states.Leaf

abbrev pub found_of : Level → ℕ → Option FourCC → Result Frame Fault → TreeBox
found_of l o code (Ok h) = found_of_head l o h
found_of l o code (Err End) = unread l o code states.NoHeader
found_of l o code (Err Invalid) = unread l o code states.Small
found_of l o code (Err (NotFound _)) = unread l o code states.Small

-- the item at o, which depends only on the bytes of the level
abbrev pub found_at : List ℕ → Level → ℕ → TreeBox
found_at B l o = let own = take l.end B in found_of l o (code_at own o) (head own o).outcome

-- a header moved by o bytes
abbrev pub later : ℕ → Result Frame Fault → Result Frame Fault
later o (Ok h) = Ok (record h { begin = h.begin + o; start = h.start + o })
later o (Err k) = Err k

-- the position of a box's content, which is after its header
abbrev pub content_begin : TreeBox → ℕ
content_begin x = x.position + x.header_length

-- the position of a box's end, but at most the end of its level
abbrev pub end_within : Level → TreeBox → ℕ
end_within l x = min (x.position + x.length) l.end
