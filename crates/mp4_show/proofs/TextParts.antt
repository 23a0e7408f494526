-- Texts that are appended one after the other.
use Rattle.std.proofs.Common.{◌≡◌, ℕ, List, ◌++◌, Result, Ok, Err, OnOk, ap, append_assoc, ◌∙◌}

-- one more text, and those after it
pub appended : {E : Type 0} (r : Result (Unit {0}) E) (old mid new one rest : List ℕ) → mid ≡ old ++ one
    → OnOk r (new ≡ mid ++ rest) → OnOk r (new ≡ old ++ (one ++ rest))
appended (Ok _) old mid new one rest here there =
    there ∙ ap (λ (t : List ℕ). t ++ rest) here ∙ append_assoc old one rest
appended (Err _) old mid new one rest here there = tt
