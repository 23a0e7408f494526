-- Parameter sets, one after the other (ISO/IEC 14496-15, 5.3.3.1): each has a length of 2 bytes, and then its bytes.
use Rattle.std.specs.Prelude.{ℕ, zero, suc, ◌+◌, ◌<◌, ◌^◌, List, [], ◌∷◌, ◌++◌, length, flat_map}
use Rattle.std.specs.List.{sum_by}
use Rattle.mp4_frame.specs.Bytes.{number, be_bytes}
use Rattle.mp4_frame.specs.Reading.{Reading, ◌>>=◌, expect_bytes, piece_at, memory, done}
use Rattle.mp4_entries.specs.declared.nal_unit.NalUnit.{NalUnit}

-- the set at offset o; memory is asked for after a check that the whole set is present
unfoldable pub set_at : List ℕ → ℕ → Reading NalUnit
set_at bytes o = do
  _ ← expect_bytes bytes o 2
  found ← piece_at bytes (o + 2) (number bytes o 2)
  _ ← memory
  done (record { bytes = found })

-- the n sets at offset o, and the offset after them
unfoldable pub sets : List ℕ → ℕ → ℕ → Reading (List NalUnit × ℕ)
sets bytes zero o = done ([], o)
sets bytes (suc n) o = do
  first ← set_at bytes o
  later ← sets bytes n (o + 2 + length first.bytes)
  done (first ∷ later.0, later.1)

-- The length fits its two bytes.
abbrev pub IsSet : NalUnit → Type 0
IsSet set = length set.bytes < 2 ^ 16

-- the number of bytes of one set, and of all sets
abbrev pub size_set : NalUnit → ℕ
size_set set = 2 + length set.bytes

abbrev pub size_sets : List NalUnit → ℕ
size_sets found = sum_by size_set found

abbrev pub bytes_set : NalUnit → List ℕ
bytes_set set = be_bytes 2 (length set.bytes) ++ set.bytes

abbrev pub bytes_sets : List NalUnit → List ℕ
bytes_sets found = flat_map bytes_set found
