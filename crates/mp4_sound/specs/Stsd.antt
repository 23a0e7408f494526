-- stsd, the sample descriptions of a track (ISO/IEC 14496-12, 8.5.2). Its fields, by offset and bytes:
-- - 8, 1 byte and 3 bytes: the version and the flags
-- - 12, 4 bytes: the number of entries, which must be present, but isn't used
-- - 16: a sample entry, if the size is more than 16. An entry of one of five types is read; what follows it is not.
-- Only one entry is written, with the count 1: the first that is present of avc1, hev1, vp09, mp4a and tx3g. Without an
-- entry, the count is 0.
use Rattle.std.specs.Prelude.{ℕ, ◌+◌, nat_lt, List, [], ◌∷◌, ◌++◌, Option, Some, None, if◌then◌else◌}
use Rattle.mp4_frame.specs.BoxType.{name_of}
use Rattle.mp4_frame.specs.Bytes.{number, bytes_of_fields, full_box}
use Rattle.mp4_frame.specs.Format.{Format}
use Rattle.mp4_frame.specs.Members.{Known, Unknown, Is, kind, Held, holds, format_held}
use Rattle.mp4_frame.specs.OneChild.{child_head, child_content}
use Rattle.mp4_frame.specs.OptionalChild.{count_optional, size_optional, WritableOptional, bytes_optional}
use Rattle.mp4_frame.specs.OptionalChild.{normal_optional}
use Rattle.mp4_frame.specs.FieldsThenChild.{WritableParent}
use Rattle.mp4_frame.specs.Reading.{Reading, ◌>>=◌, map_reading, expect_bytes, done}
use Rattle.mp4_frame.specs.declared.box_type.BoxType.{BoxType}
use Rattle.mp4_frame.specs.declared.box_type.BoxType.TheVariants as names
use Rattle.mp4_frame.specs.declared.codes.TheConstants as codes
use Rattle.mp4_frame.specs.declared.frame.Frame.{Frame}
use Rattle.mp4_entries.specs.Boxes.{reads_avc1, format_avc1, reads_hev1, format_hev1, reads_vp09, format_vp09}
use Rattle.mp4_entries.specs.Boxes.{reads_tx3g, format_tx3g}
use Rattle.mp4_entries.specs.declared.avc1.Avc1Box.{Avc1Box}
use Rattle.mp4_entries.specs.declared.hev1.Hev1Box.{Hev1Box}
use Rattle.mp4_entries.specs.declared.tx3g.Tx3gBox.{Tx3gBox}
use Rattle.mp4_entries.specs.declared.vp09.Vp09Box.{Vp09Box}
use Rattle.mp4_sound.specs.Mp4a.{reads_mp4a, format_mp4a}
use Rattle.mp4_sound.specs.declared.mp4a.Mp4aBox.{Mp4aBox}
use Rattle.mp4_sound.specs.declared.stsd.StsdBox.{StsdBox}

-- a sample entry of one of the types that are read
pub data Entry : Type 0 where
  Avc1 : Avc1Box → Entry
  Hev1 : Hev1Box → Entry
  Vp09 : Vp09Box → Entry
  Mp4a : Mp4aBox → Entry
  Tx3g : Tx3gBox → Entry

-- the type of entries that a name stands for
abbrev pub kinds_of_entry : BoxType → Known Entry
kinds_of_entry names.Avc1Box = Is (kind reads_avc1 format_avc1 Avc1)
kinds_of_entry names.Hev1Box = Is (kind reads_hev1 format_hev1 Hev1)
kinds_of_entry names.Vp09Box = Is (kind reads_vp09 format_vp09 Vp09)
kinds_of_entry names.Mp4aBox = Is (kind reads_mp4a format_mp4a Mp4a)
kinds_of_entry names.Tx3gBox = Is (kind reads_tx3g format_tx3g Tx3g)
kinds_of_entry _ = Unknown

-- the format of an entry's type, applied to the entry
abbrev pub held_entry : Entry → Held Entry
held_entry (Avc1 b) = holds format_avc1 Avc1 b
held_entry (Hev1 b) = holds format_hev1 Hev1 b
held_entry (Vp09 b) = holds format_vp09 Vp09 b
held_entry (Mp4a b) = holds format_mp4a Mp4a b
held_entry (Tx3g b) = holds format_tx3g Tx3g b

abbrev pub format_entry : Format Entry
format_entry = format_held held_entry

-- the reading of a child with this frame: an entry of the type that its name stands for, or none
abbrev pub entry_if_known : Known Entry → List ℕ → ℕ → Frame → Reading (Option Entry)
entry_if_known (Is k) bytes start c = map_reading (λ v. Some (k.wrap v)) (child_content k.reads bytes start c)
entry_if_known Unknown bytes start c = done None

-- the entry at offset 16, if the box goes on there and the entry has one of the types
abbrev pub entry_at : List ℕ → ℕ → ℕ → Reading (Option Entry)
entry_at bytes start size =
    if nat_lt 16 size then
    (child_head bytes size 16 >>= λ c. entry_if_known (kinds_of_entry (name_of c.code)) bytes start c) else done None

-- a box without an entry, and a box with another entry added
abbrev pub without_entry : (version flags : ℕ) → StsdBox
without_entry version flags =
    record { version = version; flags = flags; avc1 = None; hev1 = None; vp09 = None; mp4a = None; tx3g = None }

abbrev pub with_entry : StsdBox → Option Entry → StsdBox
with_entry v (Some (Avc1 b)) = record v { avc1 = Some b }
with_entry v (Some (Hev1 b)) = record v { hev1 = Some b }
with_entry v (Some (Vp09 b)) = record v { vp09 = Some b }
with_entry v (Some (Mp4a b)) = record v { mp4a = Some b }
with_entry v (Some (Tx3g b)) = record v { tx3g = Some b }
with_entry v None = v

-- the value with an entry, where `at o w` is the number of w bytes at offset o
abbrev pub value_stsd : (ℕ → ℕ → ℕ) → Option Entry → StsdBox
value_stsd at entry = with_entry (without_entry (at 8 1) (at 9 3)) entry

unfoldable pub reads_stsd : List ℕ → ℕ → ℕ → Reading StsdBox
reads_stsd bytes start size = do
  _ ← expect_bytes bytes 8 8
  entry ← entry_at bytes start size
  done (value_stsd (number bytes) entry)

-- the entry that is written: the first that is present
abbrev pub first_entry : Option Avc1Box → Option Hev1Box → Option Vp09Box → Option Mp4aBox → Option Tx3gBox
    → Option Entry
first_entry (Some b) _ _ _ _ = Some (Avc1 b)
first_entry None (Some b) _ _ _ = Some (Hev1 b)
first_entry None None (Some b) _ _ = Some (Vp09 b)
first_entry None None None (Some b) _ = Some (Mp4a b)
first_entry None None None None (Some b) = Some (Tx3g b)
first_entry None None None None None = None

abbrev pub entry_stsd : StsdBox → Option Entry
entry_stsd v = first_entry v.avc1 v.hev1 v.vp09 v.mp4a v.tx3g

abbrev pub size_stsd : StsdBox → ℕ
size_stsd v = 16 + size_optional format_entry (entry_stsd v)

abbrev pub fields_stsd : StsdBox → List (ℕ × ℕ)
fields_stsd v = full_box (size_stsd v) codes.STSD v.version v.flags ++ (4, count_optional (entry_stsd v)) ∷ []

-- Every number fits its field, and the entry that is written can be written.
abbrev pub WritableStsd : StsdBox → Type 0
WritableStsd v = WritableParent (WritableOptional format_entry) (fields_stsd v) (entry_stsd v)

unfoldable pub bytes_stsd : StsdBox → List ℕ
bytes_stsd v = bytes_of_fields (fields_stsd v) ++ bytes_optional format_entry (entry_stsd v)

-- only the entry that is written, in its normal form
abbrev pub normal_stsd : StsdBox → StsdBox
normal_stsd v = with_entry (without_entry v.version v.flags) (normal_optional format_entry (entry_stsd v))

abbrev pub format_stsd : Format StsdBox
format_stsd = record
    { name = λ _. names.StsdBox; size = size_stsd; Writable = WritableStsd; bytes = bytes_stsd; normal = normal_stsd }
