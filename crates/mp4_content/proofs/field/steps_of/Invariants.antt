-- The rest of the members leads from the steps found to all steps of the field.
use Rattle.std.proofs.Common.{◌≡◌, ℕ, List, map}
use Rattle.std.proofs.lemmas.Iterator.{YieldsList}
use Rattle.std.specs.Str.Iter.{split_steps}
use Rattle.std.specs.Str.Pattern.{FindsChar}
use Rattle.mp4_content.specs.Field.{field_places, place_of, places_in}
use Rattle.mp4_content.proofs.FieldSteps.{after}
use Rattle.mp4_content.proofs.field.steps_of.Given as goal

abbrev pub invariant-loop-text : goal.invariant-loop-text
invariant-loop-text l =
    (pieces : List (List ℕ))
    × YieldsList (split_steps FindsChar (λ a b. b ≡ a)) (λ x. x.now) l.text-iterator pieces
    × (after (map place_of l.steps.items) (places_in pieces) ≡ field_places l.fn.field)
