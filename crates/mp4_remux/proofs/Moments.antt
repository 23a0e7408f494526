-- A time below 0 counts as 0.
use Rattle.std.proofs.Common.{◌≡◌, ℕ, ◌<◌, ◌^◌, inl, inr, refl, arith}
use Rattle.std.specs.Prelude.{ℤ, pos, negsuc, ◌<ℤ◌, ◌⊎◌}
use Rattle.std.proofs.lemmas.Int.{ints}
use Rattle.mp4_remux.specs.Parts.{at_least_zero}

pub zero_or_same : (z : ℤ) → ((z <ℤ pos 0) × (at_least_zero z ≡ 0)) ⊎ (pos (at_least_zero z) ≡ z)
zero_or_same (pos n) = inr refl
zero_or_same (negsuc n) = inl (omega (arith, ints), refl)

pub ruleset zeros = (ints, zero_or_same)
