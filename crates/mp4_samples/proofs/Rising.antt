-- Functions of numbers that do not decrease.
use Rattle.std.proofs.Common.{◌≡◌, ℕ, zero, suc, ◌+◌, ◌<◌, ◌≤◌, inl, inr, arith}
use Rattle.std.proofs.lemmas.Bool.{cases_lt}

-- A function that does not decrease from one number to the next, up to `m`.
pub rising : (g : ℕ → ℕ) (m : ℕ) → ((n : ℕ) → n < m → g n ≤ g (n + 1)) → (i j : ℕ) → i ≤ j → j ≤ m → g i ≤ g j
rising g m step i zero le within =
    let same : i ≡ zero = omega arith in
    rw same (omega arith)
rising g m step i (suc j) le within = elim (cases_lt i (suc j)) [
  | inl lt ↦
      let rest = rising g m step i j (omega arith) (omega arith) in
      let one : j + 1 ≡ suc j = omega arith in
      let next : g j ≤ g (suc j) = rw one at (step j (omega arith)) in
      omega (arith, rest, next)
  | inr more ↦
      let same : i ≡ suc j = omega (arith, le, more) in
      rw same (omega arith)
]
