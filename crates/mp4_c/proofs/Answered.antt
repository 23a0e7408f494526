-- A call copies what it copies of the track that is found in the bytes of a file.
use Rattle.std.proofs.Common.{◌≡◌, ℕ, List, Some, subst}
use Rattle.std.specs.Prelude.{IfSome}
use Rattle.std.specs.declared.option.Option.{Option}

pub of_found : (bytes : Option (List ℕ)) (B : List ℕ) (number : ℕ) (o : Option ℕ) (Copies : List ℕ → Option ℕ → Type 0)
    → bytes ≡ Some B → Some number ≡ o → IfSome bytes (λ file. Copies file (Some number)) → Copies B o
of_found bytes B number o Copies is found h =
    subst (λ (p : Option ℕ). Copies B p) found
    (subst (λ (b : Option (List ℕ)). IfSome b (λ file. Copies file (Some number))) is h)
