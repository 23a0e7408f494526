-- The number of an item, units of bytes as entries, and parts of which only one is present, under the same names.
use Rattle.std.specs.Prelude.{ℕ, ◌*◌, ◌<◌, ◌^◌, ◌==◌, ◌&&◌, bit_and, Bool, true, List, ◌++◌, Option, length, max}
use Rattle.std.specs.Prelude.{nat_le, nat_lt}
use Rattle.json.specs.Json.{string}
use Rattle.hex.specs.Hex.{encode_lower}
use Rattle.mp4_extra_tracks.specs.ItemId.{item_width}
use Rattle.mp4_extra_pictures.specs.TakenUnits.{unit_bytes}
use Rattle.mp4_extra_pictures.specs.declared.avcc.AvcNalUnit.{AvcNalUnit}
use Rattle.mp4_extra_pictures.specs.declared.hvcc.HevcNalUnit.{HevcNalUnit}
use Rattle.mp4_declared.specs.declared.context.Context.{Context}
use Rattle.mp4_frame.specs.Laws.{AreBytes}
use Rattle.mp4_shown.specs.Lists.{bytes_item}
use Rattle.mp4_shown.specs.Numbers.{NumberName}
use Rattle.mp4_shown.specs.TakenShapes.{pair_taken}
use Rattle.mp4_read_back.specs.ComesBack.{EntryPart, Part, are_others}
use Rattle.mp4_read_back.specs.ComesBackLaws.{last_part, pair_part}
use Rattle.mp4_read_back.specs.Lists.{made_entry}
use Rattle.mp4_read_back.specs.NumberParts.{number_part}
use Rattle.mp4_read_back.specs.Structure.{FitsOrNone, before_or_none, optional_part}

-- the number of an item, of 2 bytes in the versions below v, and of 4 in later ones
abbrev pub item_part : ℕ → Part NumberName ℕ
item_part v = number_part (λ c. item_width v c.version) (λ c. 8 * item_width v c.version) 32

-- a unit of fewer than 2 ^ 16 bytes
abbrev pub unit_entry : EntryPart (Unit {0}) (List ℕ)
unit_entry = record {
  shown = λ _ bytes. bytes_item bytes;
  taken = λ _ c j. unit_bytes j;
  Fits = λ c bytes. AreBytes bytes × (length bytes < 2 ^ 16);
  is_good = λ _. true;
  json = λ _ bytes. string (encode_lower bytes);
  deep = 0;
}

-- Two last parts under conditions, of which only one holds. They may have the same names.
abbrev pub exclusive_part : {M N A B : Type 0} → (Context → Bool) → (Context → Bool) → Part M A → Part N B
    → Part (M × (N × Unit {0})) (Option A × (Option B × Unit {0}))
exclusive_part {M} {N} {A} {B} first second a b = record {
  shown = λ n v. (optional_part first a).shown n.0 v.0 ++ (last_part (optional_part second b)).shown n.1 v.1;
  taken = λ n c ms.
      pair_taken ((optional_part first a).taken n.0 c) ((last_part (optional_part second b)).taken n.1 c) ms;
  Fits = λ c v. FitsOrNone a.Fits c (first c) v.0 × FitsOrNone b.Fits c (second c) v.1.0;
  names = λ n. a.names n.0 ++ b.names n.1.0;
  is_good = λ n. a.is_good n.0 && b.is_good n.1.0;
  before = λ n v ms. before_or_none a.before n.0 v.0 (before_or_none b.before n.1.0 v.1.0 ms);
  deep = max a.deep b.deep;
}

-- a NAL unit
abbrev pub hevc_of : List ℕ → HevcNalUnit
hevc_of bytes = record { bytes = bytes }

abbrev pub bytes_of_hevc : HevcNalUnit → List ℕ
bytes_of_hevc unit = unit.bytes

abbrev pub hevc_entry : EntryPart (Unit {0}) HevcNalUnit
hevc_entry = made_entry bytes_of_hevc hevc_of unit_entry

abbrev pub avc_of : List ℕ → AvcNalUnit
avc_of bytes = record { bytes = bytes }

abbrev pub bytes_of_avc : AvcNalUnit → List ℕ
bytes_of_avc unit = unit.bytes

abbrev pub avc_entry : EntryPart (Unit {0}) AvcNalUnit
avc_entry = made_entry bytes_of_avc avc_of unit_entry

-- a part without flag 1, and another one with it
abbrev pub by_flag_part : {M N A B : Type 0} → Part M A → Part N B
    → Part (M × (N × Unit {0})) (Option A × (Option B × Unit {0}))
by_flag_part a b = exclusive_part (λ c. bit_and c.flags 1 == 0) (λ c. nat_lt 0 (bit_and c.flags 1)) a b

-- The same before a third part. The first two may have the same names.
abbrev pub exclusive_then : {M N K A B C : Type 0} → (Context → Bool) → (Context → Bool) → Part M A → Part N B
    → Part K C
    → Part (M × (N × K)) (Option A × (Option B × C))
exclusive_then {M} {N} {K} {A} {B} {C} first second a b r = record {
  shown = λ n v. (optional_part first a).shown n.0 v.0 ++ (pair_part (optional_part second b) r).shown n.1 v.1;
  taken = λ n c ms.
      pair_taken ((optional_part first a).taken n.0 c) ((pair_part (optional_part second b) r).taken n.1 c) ms;
  Fits = λ c v. FitsOrNone a.Fits c (first c) v.0 × (FitsOrNone b.Fits c (second c) v.1.0 × r.Fits c v.1.1);
  names = λ n. a.names n.0 ++ (b.names n.1.0 ++ r.names n.1.1);
  is_good = λ n. (a.is_good n.0 && (pair_part (optional_part second b) r).is_good n.1)
      && are_others (a.names n.0) (r.names n.1.1);
  before = λ n v ms.
      before_or_none a.before n.0 v.0 (before_or_none b.before n.1.0 v.1.0 (r.before n.1.1 v.1.1 ms));
  deep = max a.deep (max b.deep r.deep);
}

-- a part of version 0 and one of later versions, before a third part
abbrev pub version_then : {M N K A B C : Type 0} → Part M A → Part N B → Part K C
    → Part (M × (N × K)) (Option A × (Option B × C))
version_then a b r = exclusive_then (λ c. c.version == 0) (λ c. nat_le 1 c.version) a b r
