-- The number of rows that are read.
use Rattle.std.proofs.Common.{◌≡◌, ℕ, ◌*◌, List, length, Ok, sym, ap, ◌∙◌}
use Rattle.mp4_frame.specs.Reading.{expect_bytes, done}
use Rattle.mp4_frame.specs.Tables.{rows, rows_at}
use Rattle.mp4_frame.proofs.Checks.{is_value}
use Rattle.mp4_frame.proofs.Tables.{value_first, length-rows}

pub rows_count : (bytes : List ℕ) (o e n : ℕ) (found : List (List ℕ)) → (rows_at bytes o e n).outcome ≡ Ok found
    → length found ≡ n
unfolding rows_at
rows_count bytes o e n found h =
    let p = value_first (expect_bytes bytes o (n * e)) (λ _. done (rows bytes o e n)) found h in
    sym (ap length (is_value (rows bytes o e n) found p.2)) ∙ length-rows bytes o e n
