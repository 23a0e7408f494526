-- A path that has another number of parts than there are steps.
use Rattle.std.proofs.Common.{◌≡◌, ◌∙◌, suc, Bool, true, false, List, [], ◌∷◌, length, refl, ap}
use Rattle.std.specs.Prelude.{◌&&◌}
use Rattle.mp4_content.specs.declared.path.Part.{Part}
use Rattle.mp4_inspect.specs.Patterns.{accepts, accepts_all}
use Rattle.mp4_inspect.specs.declared.pattern.Step.{Step}

never : (b : Bool) → (b && false) ≡ false
never true = refl
never false = refl

-- A path of another length is not accepted.
pub other_length : (steps : List Step) (path : List Part) → ¬ (length steps ≡ length path)
    → accepts_all steps path ≡ false
other_length [] [] other = absurd (other refl)
other_length [] (part ∷ parts) other = refl
other_length (step ∷ steps) [] other = refl
other_length (step ∷ steps) (part ∷ parts) other =
    ap (λ (b : Bool). accepts step part && b) (other_length steps parts (λ same. other (ap suc same)))
    ∙ never (accepts step part)
