-- The pattern that a text stands for.
use Rattle.std.specs.Prelude.{◌≡◌, ◌≢◌, ℕ, ◌==◌, ◌&&◌, ◌||◌, Bool, true, false, nat_eq, ⊤, List, [], ◌∷◌, Some}
use Rattle.std.specs.Prelude.{length, take, drop, slice_get, codes, if◌then◌else◌}
use Rattle.std.specs.List.{starts_with}
use Rattle.std.specs.Str.{bytes_eq}
use Rattle.mp4_inspect.specs.declared.pattern.Pattern.{Pattern}
use Rattle.mp4_inspect.specs.declared.pattern.Step.{Step}
use Rattle.mp4_inspect.specs.declared.pattern.Step.TheVariants as kinds
use Rattle.mp4_walk.specs.PathText.{IsCode, HasCode, HasNoCode, IsIndex, HasNoIndex, texts_of}
use Rattle.mp4_walk.specs.declared.path.PathError.{PathError}
use Rattle.mp4_walk.specs.declared.path.PathError.TheVariants as faults

-- a code with `rest` after it means every box with the code: `rest` is `[*]`, or it is empty and `each` is true
abbrev pub is_each : Bool → List ℕ → Bool
is_each each rest = bytes_eq rest (codes "[*]") || (each && (length rest == 0))

-- `text` stands for this step
abbrev pub IsStep : Bool → List ℕ → Step → Type 0
IsStep each text kinds.Any = text ≡ codes "*"
IsStep each text (kinds.Each code) =
    (rest : List ℕ) × IsCode code.value × HasCode text code.value rest × (is_each each rest ≡ true)
IsStep each text (kinds.One part) =
    (rest : List ℕ) × IsCode part.code.value × HasCode text part.code.value rest × IsIndex rest part.index
    × (is_each each rest ≡ false)

-- it stands for no step, and this is the error if it is step `number`
abbrev pub IsStepFault : List ℕ → ℕ → PathError → Type 0
IsStepFault text number (faults.Code n) = (n ≡ number) × HasNoCode text × (text ≢ codes "*")
IsStepFault text number (faults.Index n) =
    (n ≡ number)
    × ((code rest : List ℕ) × IsCode code × HasCode text code rest × HasNoIndex rest × (rest ≢ codes "[*]"))
IsStepFault text number faults.Memory = ⊥

-- the texts stand for these steps, in order; `each` is for the first
abbrev pub AreSteps : Bool → List (List ℕ) → List Step → Type 0
AreSteps each [] [] = ⊤
AreSteps each (text ∷ texts) (step ∷ steps) = IsStep each text step × AreSteps false texts steps
AreSteps each _ _ = ⊥

-- `text` begins with `**/`: any boxes may be around those of the steps
abbrev pub is_anywhere : List ℕ → Bool
is_anywhere text = starts_with nat_eq text (codes "**/")

-- the text of the steps: what follows `**/`, or all
abbrev pub steps_text : List ℕ → List ℕ
steps_text text = if is_anywhere text then drop 3 text else text

-- `text` stands for this pattern
abbrev pub IsPattern : List ℕ → Pattern → Type 0
IsPattern text pattern =
    (pattern.anywhere ≡ is_anywhere text)
    × AreSteps (is_anywhere text) (texts_of (steps_text text)) pattern.steps.items

-- it stands for no pattern, and this is the error of the first step that is none
abbrev pub IsPatternFault : List ℕ → PathError → Type 0
IsPatternFault text e =
    (number : ℕ) × (faulty : List ℕ) × (slice_get (texts_of (steps_text text)) number ≡ Some faulty)
    × IsStepFault faulty number e
    × ((steps : List Step) × AreSteps (is_anywhere text) (take number (texts_of (steps_text text))) steps)
