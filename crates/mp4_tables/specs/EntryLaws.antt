-- The numbers of an entry are read back from its row.
use Rattle.std.proofs.Common.{◌≡◌, ℕ, List, [], ap, ◌∙◌}
use Rattle.mp4_frame.specs.Bytes.{number, bytes_of_fields, FieldsFit}
use Rattle.mp4_frame.proofs.Fields.{found, number-fields_alone}

-- a value made of the numbers of fields is the value made of the numbers in the bytes of these fields
pub fields_back : {X : Type 0} (value : (ℕ → ℕ → ℕ) → X) (cs : List (ℕ × ℕ)) (x : X) → FieldsFit cs
    → value (found cs []) ≡ x → value (number (bytes_of_fields cs)) ≡ x
fields_back value cs x fits is = ap value (λ i o w. number-fields_alone cs o w fits i) ∙ is
