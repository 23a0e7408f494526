-- The events of a value of a shape.
use Rattle.std.specs.Prelude.{ℕ, List, [], ◌∷◌, ◌++◌, Option, Some, None}
use Rattle.mp4_frame.specs.FourCC.{four_cc_of}
use Rattle.mp4_declared.specs.declared.typed.OfType.{OfType}
use Rattle.mp4_declared.specs.declared.typed.OfType.TheVariants as of_type
use Rattle.mp4_shown.specs.Event.{Event, Shown, field, code, begin_group, end_group, bytes_of_code}
use Rattle.mp4_shown.specs.declared.view.View.{View}

-- one value under a name
abbrev pub shown_as : List ℕ → Shown → List Event
shown_as name value = field name value ∷ []

-- a part that may be absent
abbrev pub shown_if : {N A : Type 0} → (N → View → A → List Event) → N → View → Option A → List Event
shown_if shown names view (Some x) = shown names view x
shown_if shown names view None = []

-- a part that has members
abbrev pub shown_group : List ℕ → List Event → List Event
shown_group name es = begin_group name ∷ (es ++ end_group ∷ [])

-- a tag under a name, as a code, and what follows it
abbrev pub shown_typed : {M N A B : Type 0} → ℕ → (M → View → A → List Event) → (N → View → B → List Event) → List ℕ
    → M → N → View → OfType A B → List Event
shown_typed k own other name own_names other_names view (of_type.Own x) =
    field name (code (bytes_of_code (four_cc_of k))) ∷ own own_names view x
shown_typed k own other name own_names other_names view (of_type.Other n y) =
    field name (code (bytes_of_code (four_cc_of n))) ∷ other other_names view y
