-- The lists of a trun box. Each has one number of each row, if its flag is set.
use Rattle.std.specs.Prelude.{◌≡◌, ℕ, ◌<◌, ◌^◌, Bool, true, false, List, [], All, length, map, if◌then◌else◌}
use Rattle.mp4_frame.specs.Bytes.{number}
use Rattle.mp4_frame.specs.Reading.{Reading, ◌>>=◌, memory, done}
use Rattle.mp4_tables.specs.Rows.{rows_within}
use Rattle.mp4_tables.specs.TrunRows.{size_in_row, flags_in_row, cts_in_row, row_length}
use Rattle.mp4_tables.specs.declared.trun.row_flags.RowFlags.{RowFlags}
use Rattle.mp4_tables.specs.declared.trun.lists.TrunLists.{TrunLists}

-- the numbers of 4 bytes at offset o of the rows if the flag is set, else none
unfoldable pub column_if : Bool → ℕ → List (List ℕ) → List ℕ
column_if is_flagged o rows = if is_flagged then map (λ row. number row o 4) rows else []

abbrev pub lists_of : RowFlags → List (List ℕ) → TrunLists
lists_of has rows = record {
  durations = column_if has.duration 0 rows;
  sizes = column_if has.size (size_in_row has) rows;
  flags = column_if has.flags (flags_in_row has) rows;
  cts = column_if has.cts (cts_in_row has) rows;
}

-- the lists of `count` rows, starting at o
unfoldable pub reads_lists : List ℕ → ℕ → RowFlags → ℕ → ℕ → Reading TrunLists
reads_lists bytes size has o count = do
  rows ← rows_within bytes size o (row_length has) count
  _ ← memory
  done (lists_of has rows)

-- the number of numbers in a list: count if its flag is set, else 0
abbrev pub count_if : Bool → ℕ → ℕ
count_if is_flagged count = if is_flagged then count else 0

-- a list has count numbers if its flag is set, else none, and each of them fits 32 bits
pub record IsListed (is_flagged : Bool) (count : ℕ) (numbers : List ℕ) : Type 0 where
  pub long : length numbers ≡ count_if is_flagged count
  pub each : All (λ n. n < 2 ^ 32) numbers

-- a list has an i-th number if its flag is set, and is empty if not
abbrev pub HasAt : Bool → ℕ → List ℕ → Type 0
HasAt true i numbers = i < length numbers
HasAt false i numbers = length numbers ≡ 0
