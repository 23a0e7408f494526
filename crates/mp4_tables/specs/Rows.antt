-- Rows that begin at any offset of a box, with a count from any field.
use Rattle.std.specs.Prelude.{ℕ, ◌-◌, ◌*◌, List, nat_le}
use Rattle.mp4_frame.specs.Reading.{Reading, ◌>>=◌, check}
use Rattle.mp4_frame.specs.Tables.{rows_at}

-- the n rows of e bytes each that start at offset o, once a check finds that the size has room for them
unfoldable pub rows_within : List ℕ → ℕ → ℕ → ℕ → ℕ → Reading (List (List ℕ))
rows_within bytes size o e n = do
  _ ← check (nat_le (n * e) (size - o))
  rows_at bytes o e n
