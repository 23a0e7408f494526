-- The relation between the items of a buffer and the list of its boxes.
use Rattle.std.specs.Prelude.{ℕ, ◌≡◌, Bool, List, [], ◌∷◌, Result, Ok, Err}
use Rattle.std.specs.Iterator.{Drains}
use Rattle.mp4_frame.specs.Reading.{Reading, AnswersAs}
use Rattle.mp4_frame.specs.Streams.{boxes}
use Rattle.mp4_frame.specs.declared.box_type.BoxType.{BoxType}
use Rattle.mp4_frame.specs.declared.error.Error.{Error}
use Rattle.mp4_iterator.specs.Items.{items, in_order}
use Rattle.mp4_iterator.specs.Progress.{Progress, boxes_left, GivesBox}

-- a box in front of the boxes collected after it
abbrev pub in_front : {A : Type 0} → A → Result (List A) Error → Result (List A) Error
in_front v (Ok vs) = Ok (v ∷ vs)
in_front v (Err e) = Err e

-- the boxes of a list of results, or its first error
abbrev pub collected : {A : Type 0} → List (Result A Error) → Result (List A) Error
collected [] = Ok []
collected (Ok v ∷ rs) = in_front v (collected rs)
collected (Err e ∷ rs) = Err e

module _ {A : Type 0} (known : BoxType → Bool) (reading : BoxType → List ℕ → ℕ → ℕ → Reading A) where
  -- reading the items in order is reading the list of the boxes
  abbrev pub BoxesAreItems : Type 0
  BoxesAreItems = (B : List ℕ) (o : ℕ) → boxes known reading B o ≡ in_order (items known reading B o)

  -- The results of calls of `next` up to `None` were read from the boxes that were left. Their boxes, or the first
  -- error, are a result of reading the list of these boxes.
  abbrev pub CollectsToBoxes : Progress → Type 0
  CollectsToBoxes s =
      (rs : List (Result A Error)) → Drains (GivesBox known reading) s rs
      → AnswersAs (λ vs. vs) (collected rs) (boxes_left known reading s)
