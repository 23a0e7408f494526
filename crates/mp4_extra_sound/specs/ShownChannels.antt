-- The events of a box under its names. A definition that the prover does not open: it would compute with each of many
-- names.
use Rattle.std.specs.Prelude.{List}
use Rattle.mp4_shown.specs.Event.{Event}
use Rattle.mp4_shown.specs.Members.{AreMembers}
use Rattle.mp4_shown.specs.declared.view.View.{View}

unfoldable pub shown_by : {S V : Type 0} → (S → View → V → List Event) → S → View → V → List Event
shown_by shown names view v = shown names view v

pub whole_by : {S V : Type 0} (shown : S → View → V → List Event)
    → ((names : S) (view : View) (v : V) → AreMembers (shown names view v))
    → (names : S) (view : View) (v : V) → AreMembers (shown_by shown names view v)
unfolding shown_by
whole_by shown whole names view v = whole names view v
