-- The laws of rows that begin at any offset of a box.
use Rattle.std.proofs.Common.{◌≡◌, ℕ, ◌+◌, ◌*◌, ◌-◌, ◌<◌, true, leb, List, ◌++◌, map, Ok, length, refl, arith}
use Rattle.std.specs.List.{flat_map, AllByRecursion}
use Rattle.std.proofs.lemmas.Bool.{le-leb}
use Rattle.mp4_frame.specs.Laws.{AreBytes}
use Rattle.mp4_frame.specs.Reading.{done}
use Rattle.mp4_frame.specs.Tables.{rows_at}
use Rattle.mp4_frame.proofs.Checks.{check_ok}
use Rattle.mp4_frame.proofs.Tables.{IsRow, rows_at_back, rows_read}
use Rattle.mp4_tables.specs.Rows.{rows_within}

-- rows that were written after p are read back
pub rows_within_back : {X : Type 0} (row_of : X → List ℕ) (e : ℕ) (Fits : X → Type 0)
    → ((x : X) → Fits x → length (row_of x) ≡ e)
    → (p : List ℕ) (xs : List X) (y : List ℕ) (o size : ℕ) → AllByRecursion Fits xs → length p ≡ o
    → size ≡ o + e * length xs
    → rows_within (p ++ (flat_map row_of xs ++ y)) size o e (length xs) ≡ done (map row_of xs)
unfolding rows_within
rows_within_back row_of e Fits long p xs y o size fits at is =
    let room : leb (length xs * e) (size - o) ≡ true = le-leb (length xs * e) (size - o) (omega arith) in
    let back : rows_at (p ++ (flat_map row_of xs ++ y)) o e (length xs) ≡ done (map row_of xs) =
    rows_at_back row_of e Fits long p xs y o fits at in
    rw (room, back) refl

-- the number of rows that were read is n, and each has e bytes
pub rows_within_read : (bytes : List ℕ) (size o e n : ℕ) (found : List (List ℕ)) → 0 < e → AreBytes bytes
    → (rows_within bytes size o e n).outcome ≡ Ok found → AllByRecursion (IsRow e) found × (length found ≡ n)
unfolding rows_within
rows_within_read bytes size o e n found pos are h =
    rows_read bytes o e n found pos are (check_ok (leb (n * e) (size - o)) (λ _. rows_at bytes o e n) found h).1
