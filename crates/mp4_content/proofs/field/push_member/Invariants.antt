-- The rest of the numbers leads from the steps found to all steps of the text.
use Rattle.std.proofs.Common.{◌≡◌, ℕ, List, map}
use Rattle.std.proofs.lemmas.Iterator.{YieldsList}
use Rattle.std.specs.Str.Iter.{split_steps}
use Rattle.std.specs.Str.Pattern.{FindsChar}
use Rattle.mp4_content.specs.Field.{entries_in, member_places, place_of}
use Rattle.mp4_content.proofs.FieldSteps.{after}
use Rattle.mp4_content.proofs.field.push_member.Given as goal

abbrev pub invariant-loop-piece : goal.invariant-loop-piece
invariant-loop-piece l =
    (pieces : List (List ℕ))
    × YieldsList (split_steps FindsChar (λ a b. b ≡ a)) (λ x. x.now) l.piece-iterator pieces
    × (after (map place_of l.steps.items) (entries_in pieces)
    ≡ after (map place_of l.fn.steps.items) (member_places l.fn.text))
