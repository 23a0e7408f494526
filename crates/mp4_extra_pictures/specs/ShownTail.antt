-- The events of the end of a box.
use Rattle.std.specs.Prelude.{ℕ, List}
use Rattle.mp4_shown.specs.Event.{Event}
use Rattle.mp4_shown.specs.Members.{AreMembers, whole_run}
use Rattle.mp4_shown.specs.Runs.{BytesName, shown_run}
use Rattle.mp4_shown.specs.declared.view.View.{View}
use Rattle.mp4_extra_pictures.specs.declared.tail.AtEnd.{AtEnd}
use Rattle.mp4_extra_pictures.specs.declared.tail.AtEnd.TheVariants as at_end

-- the events of the part, or of other bytes
abbrev pub shown_end : {A : Type 0} → (View → A → List Event) → BytesName → View → AtEnd A (List ℕ) → List Event
shown_end known name view (at_end.Known x) = known view x
shown_end known name view (at_end.Other bs) = shown_run name view.rows bs

pub whole_end : {A : Type 0} (known : View → A → List Event) → ((view : View) (x : A) → AreMembers (known view x))
    → (name : BytesName) (view : View) (v : AtEnd A (List ℕ)) → AreMembers (shown_end known name view v)
whole_end known whole name view (at_end.Known x) = whole view x
whole_end known whole name view (at_end.Other bs) = whole_run name view.rows bs
