-- The fields of a box that lead to bytes of the file, with their numbers after a change. The change puts the position
-- `to o` in place of position o. Positions of fields are those in the content of the box, which is xs.
use Rattle.std.specs.Prelude.{ℕ, zero, suc, ◌≡◌, ◌≤◌, ◌+◌, ◌-◌, ◌*◌, ◌/◌, ◌%◌, ◌^◌, ◌==◌, ◌&&◌, ◌||◌, Bool}
use Rattle.std.specs.Prelude.{nat_le, nat_lt, length, List, [], ◌∷◌, ◌++◌, None, Some, if◌then◌else◌}
use Rattle.std.specs.declared.option.Option.{Option}
use Rattle.mp4_frame.specs.Bytes.{number}
use Rattle.mp4_frame.specs.FourCC.{four_cc_of}
use Rattle.mp4_frame.specs.declared.codes.TheConstants as codes
use Rattle.mp4_walk.specs.Paths.{is_code}
use Rattle.mp4_walk.specs.Source.{piece}
use Rattle.mp4_walk.specs.declared.tree_box.TreeBox.{TreeBox}
use Rattle.mp4_remux_files.specs.declared.field.Anchor.{Anchor}
use Rattle.mp4_remux_files.specs.declared.field.Field.{Field}
use Rattle.mp4_remux_files.specs.declared.fragment.Fragment.{Fragment}
use Rattle.mp4_remux_files.specs.declared.items.ItemPlace.{ItemPlace}
use Rattle.mp4_remux_files.specs.declared.items.ItemSizes.{ItemSizes}

-- in place of a number that leads nowhere after the change: no field has room for it
abbrev pub gone : ℕ
gone = 2 ^ 64

-- the number of bytes from position a to position b, if b is one and not before a
abbrev pub distance : ℕ → ℕ → ℕ
distance a b = if nat_le a b && nat_lt b gone then b - a else gone

-- a number that counts from one position before the change, and from another one after it
abbrev pub counted : (ℕ → ℕ) → Anchor → ℕ → ℕ
counted to a n = distance a.after (to (a.before + n))

-- the front of the file
abbrev pub front : Anchor
front = record { before = 0; after = 0 }

-- the field of w bytes at this position, and the number after the change
abbrev pub field_at : (ℕ → ℕ) → Anchor → List ℕ → ℕ → ℕ → Field
field_at to a xs w at = record { begin = at; width = w; value = counted to a (number xs at w) }

-- a field that can't be changed
abbrev pub no_field : Field
no_field = record { begin = 0; width = 0; value = gone }

-- n fields of w bytes, the first at this position, and each `stride` bytes after the one before
unfoldable pub each_field : (ℕ → ℕ) → Anchor → List ℕ → ℕ → ℕ → ℕ → ℕ → List Field
each_field to a xs w stride zero at = []
each_field to a xs w stride (suc n) at = field_at to a xs w at ∷ each_field to a xs w stride n (at + stride)

-- the number of bytes of a time or an offset in this version
abbrev pub wide_by : ℕ → ℕ
wide_by version = if version == 0 then 4 else 8

-- the lowest bit of the flags is set
abbrev pub is_flagged : List ℕ → Bool
is_flagged xs = number xs 3 1 % 2 == 1

-- Random access samples of a track (ISO/IEC 14496-12, 8.8.10): each entry has a time, and the position of a `moof`
abbrev pub access_stride : ℕ → ℕ → ℕ
access_stride w sizes = 2 * w + 3 + (sizes / 16) % 4 + (sizes / 4) % 4 + sizes % 4

abbrev pub accesses_by : (ℕ → ℕ) → List ℕ → ℕ → List Field
accesses_by to xs w = each_field to front xs w (access_stride w (number xs 11 1)) (number xs 12 4) (16 + w)

abbrev pub access_fields : (ℕ → ℕ) → List ℕ → List Field
access_fields to xs = accesses_by to xs (wide_by (number xs 0 1))

-- the base of the offsets of a fragment (8.8.7)
abbrev pub base_fields : (ℕ → ℕ) → List ℕ → List Field
base_fields to xs = if is_flagged xs then field_at to front xs 8 8 ∷ [] else []

-- Offsets of auxiliary information in a fragment, which count from its base (8.7.9). The base moves, too
abbrev pub auxiliary_by : (ℕ → ℕ) → Anchor → List ℕ → ℕ → ℕ → List Field
auxiliary_by to a xs w at = each_field to a xs w w (number xs at 4) (at + 4)

abbrev pub base_anchor : (ℕ → ℕ) → ℕ → Anchor
base_anchor to base = record { before = base; after = to base }

abbrev pub before_count : List ℕ → ℕ
before_count xs = if is_flagged xs then 12 else 4

abbrev pub auxiliary_fields : (ℕ → ℕ) → Option ℕ → List ℕ → List Field
auxiliary_fields to None xs = no_field ∷ []
auxiliary_fields to (Some base) xs =
    auxiliary_by to (base_anchor to base) xs (wide_by (number xs 0 1)) (before_count xs)

-- Parts of the media, one after the other, by their sizes (8.16.3). The size of a part is that up to the next part
-- after the change, or up to the end of its last byte
abbrev pub part_size : List ℕ → ℕ → ℕ
part_size xs at = number xs at 4 % 2 ^ 31

abbrev pub end_after : (ℕ → ℕ) → ℕ → ℕ → Bool → ℕ
end_after to p q last = if last && nat_lt p q then to (q - 1) + 1 else to q

abbrev pub short_size : ℕ → ℕ
short_size n = if nat_lt n (2 ^ 31) then n else gone

-- the highest bit of the field is the kind of the part
abbrev pub part_number : ℕ → ℕ → ℕ
part_number old size = (old / 2 ^ 31) * 2 ^ 31 + short_size size

abbrev pub part_field : (ℕ → ℕ) → List ℕ → ℕ → ℕ → Bool → Field
part_field to xs at p last =
    record {
      begin = at;
      width = 4;
      value = part_number (number xs at 4) (distance (to p) (end_after to p (p + part_size xs at) last));
    }

-- the sizes of n parts, of which the first begins at p
unfoldable pub part_fields : (ℕ → ℕ) → List ℕ → ℕ → ℕ → ℕ → List Field
part_fields to xs zero at p = []
part_fields to xs (suc n) at p =
    part_field to xs at p (n == 0) ∷ part_fields to xs n (at + 12) (p + part_size xs at)

-- the first part of an index counts from its end
abbrev pub index_by : (ℕ → ℕ) → Anchor → List ℕ → ℕ → List Field
index_by to a xs w =
    field_at to a xs w (12 + w)
    ∷ part_fields to xs (number xs (14 + 2 * w) 2) (16 + 2 * w) (a.before + number xs (12 + w) w)

abbrev pub end_of : (ℕ → ℕ) → TreeBox → Anchor
end_of to x = record { before = x.position + x.length; after = to x.position + x.length }

abbrev pub index_fields : (ℕ → ℕ) → List ℕ → TreeBox → List Field
index_fields to xs x = index_by to (end_of to x) xs (wide_by (number xs 0 1))

-- The sizes of fields of the items of an `iloc` (8.11.3). Extents have an index since version 1
abbrev pub index_size : ℕ → ℕ → ℕ
index_size version byte = if version == 0 then 0 else byte % 16

abbrev pub sizes_of : List ℕ → ItemSizes
sizes_of xs =
    record {
      version = number xs 0 1;
      offset = number xs 4 1 / 16;
      length = number xs 4 1 % 16;
      base = number xs 5 1 / 16;
      index = index_size (number xs 0 1) (number xs 5 1);
    }

abbrev pub id_size : ItemSizes → ℕ
id_size s = if nat_lt s.version 2 then 2 else 4

-- the bytes of a number and a kind of place, before the reference
abbrev pub before_reference : ItemSizes → ℕ
before_reference s = id_size s + (if s.version == 0 then 0 else 2)

abbrev pub method_at : ItemSizes → List ℕ → ℕ → ℕ
method_at s xs at = if s.version == 0 then 0 else number xs (at + id_size s + 1) 1 % 16

abbrev pub extent_size : ItemSizes → ℕ
extent_size s = s.index + s.offset + s.length

abbrev pub item_from : ItemSizes → List ℕ → ℕ → ℕ → ItemPlace
item_from s xs at base =
    record {
      method = method_at s xs at;
      reference = number xs (at + before_reference s) 2;
      base = base;
      extents = base + s.base + 2;
      count = number xs (base + s.base) 2;
    }

-- the place of the item at this position
abbrev pub item_at : ItemSizes → List ℕ → ℕ → ItemPlace
item_at s xs at = item_from s xs at (at + before_reference s + 2)

abbrev pub item_end : ItemSizes → ItemPlace → ℕ
item_end s i = i.extents + i.count * extent_size s

-- The item is in this file, by positions: they count from the front of the file, and from its base offset. If its
-- extents have no offsets, they begin at the base offset
abbrev pub still : ℕ → Anchor
still base = record { before = base; after = base }

abbrev pub extent_fields : (ℕ → ℕ) → List ℕ → ItemSizes → ItemPlace → ℕ → List Field
extent_fields to xs s i base =
    each_field to (still base) xs s.offset (extent_size s) i.count (i.extents + s.index)

abbrev pub file_fields : (ℕ → ℕ) → List ℕ → ItemSizes → ItemPlace → List Field
file_fields to xs s i =
    if s.offset == 0 then field_at to front xs s.base i.base ∷ [] else
    extent_fields to xs s i (number xs i.base s.base)

-- methods 1 and 2 are places in the `idat` and in other items, which don't change
abbrev pub item_fields : (ℕ → ℕ) → List ℕ → ItemSizes → ItemPlace → List Field
item_fields to xs s i =
    if (i.method == 1) || (i.method == 2) then [] else
    if (i.method == 0) && (i.reference == 0) then file_fields to xs s i else no_field ∷ []

-- the fields of n items, of which the first is at this position
unfoldable pub items_fields : (ℕ → ℕ) → List ℕ → ItemSizes → ℕ → ℕ → List Field
items_fields to xs s zero at = []
items_fields to xs s (suc n) at =
    item_fields to xs s (item_at s xs at) ++ items_fields to xs s n (item_end s (item_at s xs at))

abbrev pub place_fields : (ℕ → ℕ) → List ℕ → List Field
place_fields to xs =
    if nat_lt 2 (number xs 0 1) then no_field ∷ [] else
    if number xs 0 1 == 2 then items_fields to xs (sizes_of xs) (number xs 6 4) 10 else
    items_fields to xs (sizes_of xs) (number xs 6 2) 8

-- the fields of an `iloc` outside the movie box. In a fragment its positions count from elsewhere
abbrev pub places_beside : (ℕ → ℕ) → Option ℕ → List ℕ → List Field
places_beside to None xs = place_fields to xs
places_beside to (Some moof) xs = no_field ∷ []

abbrev pub top_place_fields : (ℕ → ℕ) → Fragment → List ℕ → List Field
top_place_fields to f xs = places_beside to f.moof xs

-- boxes of this code may have such fields outside the movie box
abbrev pub has_fields : TreeBox → Bool
has_fields x =
    is_code (four_cc_of codes.ILOC) x.code || is_code (four_cc_of codes.TFRA) x.code
    || is_code (four_cc_of codes.SAIO) x.code || is_code (four_cc_of codes.SIDX) x.code
    || is_code (four_cc_of codes.TFHD) x.code

-- the fields of a box outside the movie box
abbrev pub fields_in : (ℕ → ℕ) → Fragment → List ℕ → TreeBox → List Field
fields_in to f xs x =
    if is_code (four_cc_of codes.ILOC) x.code then top_place_fields to f xs else
    if is_code (four_cc_of codes.TFRA) x.code then access_fields to xs else
    if is_code (four_cc_of codes.SAIO) x.code then auxiliary_fields to f.base xs else
    if is_code (four_cc_of codes.SIDX) x.code then index_fields to xs x else
    if is_code (four_cc_of codes.TFHD) x.code then base_fields to xs else []

-- ys has the bytes of xs starting at position `at`, except that each field has its new number
abbrev pub AreSetFrom : List ℕ → List ℕ → ℕ → List Field → Type 0
AreSetFrom xs ys at [] = piece ys at (length xs - at) ≡ piece xs at (length xs - at)
AreSetFrom xs ys at (f ∷ fs) =
    (at ≤ f.begin) × (piece ys at (f.begin - at) ≡ piece xs at (f.begin - at)) × (number ys f.begin f.width ≡ f.value)
    × AreSetFrom xs ys (f.begin + f.width) fs

-- ys is xs, except that each field has its new number
pub record AreSet (xs ys : List ℕ) (fs : List Field) : Type 0 where
  pub long : length ys ≡ length xs
  pub bytes : AreSetFrom xs ys 0 fs
