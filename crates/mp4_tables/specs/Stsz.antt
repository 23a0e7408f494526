-- stsz, the sample size box (ISO/IEC 14496-12, 8.7.3.2). The fields are version 1 byte, flags 3, sample_size 4 at
-- 12, and sample_count 4 at 16. If sample_size is 0, sample_count sizes of 4 bytes each follow, starting at 20.
use Rattle.std.specs.Prelude.{◌≡◌, ℕ, ◌+◌, ◌*◌, ◌<◌, ◌^◌, ◌==◌, List, [], ◌∷◌, ◌++◌, All, length, map, flat_map}
use Rattle.std.specs.Prelude.{if◌then◌else◌}
use Rattle.mp4_frame.specs.Bytes.{number, be_bytes, bytes_of_fields, FieldsFit, full_box}
use Rattle.mp4_frame.specs.Reading.{Reading, ◌>>=◌, expect_bytes, memory, done}
use Rattle.mp4_tables.specs.Rows.{rows_within}
use Rattle.mp4_frame.specs.Format.{Format}
use Rattle.mp4_frame.specs.declared.box_type.BoxType.TheVariants as names
use Rattle.mp4_frame.specs.declared.codes.TheConstants as codes
use Rattle.mp4_tables.specs.declared.stsz.StszBox.{StszBox}

-- `count` sizes, starting at 20
unfoldable pub reads_sizes : List ℕ → ℕ → ℕ → Reading (List ℕ)
reads_sizes bytes size count = do
  rows ← rows_within bytes size 20 4 count
  _ ← memory
  done (map (λ entry. number entry 0 4) rows)

-- the sizes if sample_size is 0, else none
abbrev pub sizes_if_listed : List ℕ → ℕ → ℕ → ℕ → Reading (List ℕ)
sizes_if_listed bytes size sample_size count = if sample_size == 0 then reads_sizes bytes size count else done []

-- the value with these sizes, where `at o w` is the number of w bytes at offset o
abbrev pub value_stsz : (ℕ → ℕ → ℕ) → List ℕ → StszBox
value_stsz at sizes =
    record { version = at 8 1; flags = at 9 3; sample_size = at 12 4; sample_count = at 16 4; sample_sizes = sizes }

unfoldable pub reads_stsz : List ℕ → ℕ → ℕ → Reading StszBox
reads_stsz bytes start size = do
  _ ← expect_bytes bytes 8 12
  sizes ← sizes_if_listed bytes size (number bytes 12 4) (number bytes 16 4)
  done (value_stsz (number bytes) sizes)

abbrev pub size_stsz : StszBox → ℕ
size_stsz v = 20 + 4 * length v.sample_sizes

abbrev pub fields_stsz : StszBox → List (ℕ × ℕ)
fields_stsz v = full_box (size_stsz v) codes.STSZ v.version v.flags ++ (4, v.sample_size) ∷ (4, v.sample_count) ∷ []

-- the number of sizes that the list must have: count if sample_size is 0, else 0
abbrev pub count_of_sizes : ℕ → ℕ → ℕ
count_of_sizes sample_size count = if sample_size == 0 then count else 0

-- every number fits its field, and the list has the number of sizes that it must have
pub record WritableStsz (v : StszBox) : Type 0 where
  pub fit : FieldsFit (fields_stsz v)
  pub each : All (λ size. size < 2 ^ 32) v.sample_sizes
  pub in_sync : length v.sample_sizes ≡ count_of_sizes v.sample_size v.sample_count

unfoldable pub bytes_stsz : StszBox → List ℕ
bytes_stsz v = bytes_of_fields (fields_stsz v) ++ flat_map (λ size. be_bytes 4 size) v.sample_sizes

abbrev pub format_stsz : Format StszBox
format_stsz = record
    { name = λ _. names.StszBox; size = size_stsz; Writable = WritableStsz; bytes = bytes_stsz; normal = λ v. v }
