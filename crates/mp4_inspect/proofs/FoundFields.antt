-- The lines of a field of the boxes at a pattern.
use Rattle.std.proofs.Common.{◌≡◌, ◌∙◌, ℕ, Bool, List, None, Some, Ok, Err, length, ap, subst}
use Rattle.std.specs.Prelude.{◌==◌, not, IfSome}
use Rattle.std.specs.declared.option.Option.{Option}
use Rattle.mp4_check.proofs.Outcomes.{some_at}
use Rattle.mp4_frame.specs.Reading.{Reading}
use Rattle.mp4_frame.specs.declared.box_type.BoxType.{BoxType}
use Rattle.mp4_inspect.proofs.TurnSteps.{none_begun}
use Rattle.mp4_inspect.specs.FieldLines.{TellsLine}
use Rattle.mp4_inspect.specs.Fields.{WritesFields, field_got}
use Rattle.mp4_inspect.specs.InTurn.{InTurn, WritesInTurn}
use Rattle.mp4_inspect.specs.Patterns.{boxes_at}
use Rattle.mp4_inspect.specs.declared.get.Got.{Got}
use Rattle.mp4_inspect.specs.declared.pattern.Pattern.{Pattern}
use Rattle.mp4_io.specs.declared.failure.Failure.{Failure}
use Rattle.mp4_lemmas.proofs.Outcomes.{always_known}
use Rattle.mp4_shown.specs.Event.{Event}
use Rattle.mp4_shown.specs.declared.view.View.{View}
use Rattle.mp4_walk.specs.FileBoxes.{boxes_of}
use Rattle.mp4_walk.specs.declared.tree_box.TreeBox.{TreeBox}

module _ {A : Type 0} (known : BoxType → Bool) (reading : BoxType → List ℕ → ℕ → ℕ → Reading A)
    (shown : View → A → List Event) (field : List ℕ) (pattern : Pattern) where
  -- nothing is written before a failure
  pub nothing_of_fields : (bytes : Option (List ℕ)) (a : Option (List ℕ)) (failure : Failure)
      → IfSome bytes (λ file. WritesFields known reading shown field pattern file a a (Err failure))
  nothing_of_fields bytes a failure =
      always_known bytes
      (λ file. none_begun (TellsLine known reading shown field file) (boxes_at pattern (boxes_of file)) a failure)

  -- what is written before a failure
  pub fields_begun : (bytes walked : Option (List ℕ)) (boxes chosen : List TreeBox) (a b : Option (List ℕ))
      (failure : Failure) → walked ≡ bytes → IfSome bytes (λ file. boxes ≡ boxes_of file)
      → chosen ≡ boxes_at pattern boxes
      → IfSome walked (λ file. WritesInTurn (TellsLine known reading shown field file) chosen a b (Err failure))
      → IfSome bytes (λ file. WritesFields known reading shown field pattern file a b (Err failure))
  fields_begun None walked boxes chosen a b failure same all are begun = tt
  fields_begun (Some file) walked boxes chosen a b failure same all are begun =
      subst (λ (xs : List TreeBox). WritesInTurn (TellsLine known reading shown field file) xs a b (Err failure))
      (are ∙ ap (boxes_at pattern) all)
      (some_at walked file
      (λ (bs : List ℕ). WritesInTurn (TellsLine known reading shown field bs) chosen a b (Err failure)) same begun)

  -- all lines are written
  pub fields_written : (bytes walked : Option (List ℕ)) (boxes chosen : List TreeBox) (a b : Option (List ℕ))
      (any : Bool) (got : Got) → walked ≡ bytes → IfSome bytes (λ file. boxes ≡ boxes_of file)
      → chosen ≡ boxes_at pattern boxes
      → IfSome walked (λ file. WritesInTurn (TellsLine known reading shown field file) chosen a b (Ok any))
      → got ≡ field_got (not (length chosen == 0)) any
      → IfSome bytes (λ file. WritesFields known reading shown field pattern file a b (Ok got))
  fields_written None walked boxes chosen a b any got same all are written is = tt
  fields_written (Some file) walked boxes chosen a b any got same all are written is =
      let chosen_is : chosen ≡ boxes_at pattern (boxes_of file) = are ∙ ap (boxes_at pattern) all in
      let (text, told, appends) =
      some_at walked file
      (λ (bs : List ℕ). WritesInTurn (TellsLine known reading shown field bs) chosen a b (Ok any)) same written in (
        text,
        any,
        subst (λ (xs : List TreeBox). InTurn (TellsLine known reading shown field file) xs text any) chosen_is told,
        appends,
        is ∙ ap (λ (xs : List TreeBox). field_got (not (length xs == 0)) any) chosen_is,
      )
