-- Parameter sets for C: their lengths in one array, and their bytes one after the other in another.
use Rattle.std.specs.Prelude.{◌≡◌, ℕ, ◌<◌, ◌⊎◌, List, [], ◌∷◌, length, map, flat_map, take, drop}
use Rattle.std.specs.List.{sum_by}
use Rattle.mp4_c_boxes.specs.Calls.{IsFilled}
use Rattle.mp4_c_boxes.specs.declared.status.TheConstants.{OK, NO_ROOM}
use Rattle.mp4_entries.specs.declared.nal_unit.NalUnit.{NalUnit}

abbrev pub length_of_set : NalUnit → ℕ
length_of_set set = length set.bytes

abbrev pub bytes_of_set : NalUnit → List ℕ
bytes_of_set set = set.bytes

abbrev pub lengths_of_sets : List NalUnit → List ℕ
lengths_of_sets found = map length_of_set found

abbrev pub bytes_of_sets : List NalUnit → List ℕ
bytes_of_sets found = flat_map bytes_of_set found

abbrev pub size_of_sets : List NalUnit → ℕ
size_of_sets found = sum_by length_of_set found

-- the two arrays of the caller
pub record SetArrays : Type 0 where
  pub lengths : List ℕ
  pub bytes : List ℕ

-- Both arrays begin with the sets, and the places after them are as they were.
pub record AreFilled (found : List NalUnit) (old new : SetArrays) : Type 0 where
  pub lengths : IsFilled (lengths_of_sets found) old.lengths new.lengths
  pub bytes : IsFilled (bytes_of_sets found) old.bytes new.bytes

-- One of the arrays is too short, and both are as they were.
pub record AreShort (found : List NalUnit) (old new : SetArrays) : Type 0 where
  pub short : (length old.lengths < length found) ⊎ (length old.bytes < size_of_sets found)
  pub kept : new ≡ old

abbrev pub FillsSets : ℕ → List NalUnit → SetArrays → SetArrays → Type 0
FillsSets status found old new =
    ((status ≡ OK) × AreFilled found old new) ⊎ ((status ≡ NO_ROOM) × AreShort found old new)

-- the sets that have these lengths and follow one another in the bytes
abbrev pub sets_of : List ℕ → List ℕ → List NalUnit
sets_of [] bytes = []
sets_of (n ∷ ns) bytes = record { bytes = take n bytes } ∷ sets_of ns (drop n bytes)
