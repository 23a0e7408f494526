-- The sums of an index do not decrease.
use Rattle.std.proofs.Common.{◌≡◌, ℕ, ◌<◌, ◌≤◌, List, length, get_or, arith}
use Rattle.std.specs.List.Sorted.{IsNonDecreasing}
use Rattle.std.proofs.lemmas.List.{get_or_default}
use Rattle.mp4_samples.specs.Runs.{sum_before}
use Rattle.mp4_samples.proofs.RunSums.{sum_order}

pub sums_order : {X : Type 0} (f : X → ℕ) (xs : List X) (sums : List ℕ) → length sums ≤ length xs
    → ((i : ℕ) → i < length sums → get_or sums i 0 ≡ sum_before f xs i) → IsNonDecreasing sums
sums_order f xs sums within is i j d le lt =
    let low = get_or_default sums i d 0 (omega (arith, le, lt)) in
    let high = get_or_default sums j d 0 lt in
    let order = sum_order f xs i j le (omega (arith, lt, within)) in
    omega (arith, low, high, is i (omega (arith, le, lt)), is j lt, order)
