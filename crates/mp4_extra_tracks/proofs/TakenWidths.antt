-- The widths of numbers in bytes.
use Rattle.std.proofs.Common.{ℕ, ◌≤◌, Bool, true, false, arith}
use Rattle.std.proofs.lemmas.Bool.Decides.{nat_tests}
use Rattle.std.specs.Prelude.{IsTrue, if◌then◌else◌}
use Rattle.mp4_extra_tracks.specs.TakenData.{is_width}

-- a width by three tests
pub few_bytes : (a b c : Bool) → (if a then 1 else if b then 2 else if c then 4 else 8) ≤ 8
few_bytes true b c = omega arith
few_bytes false true c = omega arith
few_bytes false false true = omega arith
few_bytes false false false = omega arith

-- a number has at most 8 bytes, and one at least
pub some_width : (n : ℕ) → IsTrue (is_width n) → 1 ≤ n
some_width n is = grind (arith, nat_tests)

pub small_width : (n : ℕ) → IsTrue (is_width n) → n ≤ 8
small_width n is = grind (arith, nat_tests)
