-- Words that may be misspelt commands.
use Rattle.std.specs.Prelude.{ℕ, Bool, List, length, nat_le, ◌/◌}
use Rattle.std.specs.Str.{chars}
use Rattle.strsim.specs.Edits.{osa_table}

-- the edits that lead from one text to the other: each inserts, deletes or replaces a character, or swaps two
-- neighbours
abbrev pub edits : List ℕ → List ℕ → ℕ
edits word name = (osa_table (chars word) (chars name)).last_row (length (chars name))

-- at most one edit for three bytes of the name
abbrev pub is_close : List ℕ → List ℕ → Bool
is_close word name = nat_le (edits word name) (length name / 3)
