-- The events of the lists in the codec's boxes.
use Rattle.std.proofs.Common.{refl}
use Rattle.std.specs.Prelude.{ℕ, ◌==◌, List, [], ◌++◌, if◌then◌else◌, length}
use Rattle.mp4_shown.specs.Event.{Event}
use Rattle.mp4_shown.specs.Lists.{ListName, shown_list}
use Rattle.mp4_shown.specs.Members.{AreEntries, AreMembers, members_append, members_if, whole_list}
use Rattle.mp4_shown.specs.Numbers.{NumberName}
use Rattle.mp4_shown.specs.declared.list_name.ListAs.TheVariants as list_as
use Rattle.mp4_show.specs.Row.{Part, shown_row, whole_row}

-- a list whose number of entries is no field
abbrev pub list_name : List ℕ → ListName
list_name name = (record { now = name }, list_as.Entries, record { now = name })

abbrev pub listed : {X : Type 0} → List ℕ → (X → List Event) → ℕ → List X → List Event
listed name shown rows xs = shown_list (list_name name) shown rows xs

-- a list that is left out if it has no entry
abbrev pub listed_if : {X : Type 0} → List ℕ → (X → List Event) → ℕ → List X → List Event
listed_if name shown rows xs = if length xs == 0 then [] else listed name shown rows xs

-- a row, and a list after it
abbrev pub shown_table : {X : Type 0} → List NumberName → List Part → List ℕ → (X → List Event) → ℕ → List X
    → List Event
shown_table fs ps name shown rows xs = shown_row fs ps ++ listed name shown rows xs

pub whole_listed : {X : Type 0} (name : List ℕ) (shown : X → List Event) → ((x : X) → AreEntries (shown x))
    → (rows : ℕ) (xs : List X) → AreMembers (listed name shown rows xs)
whole_listed name shown whole rows xs = whole_list (list_name name) shown whole rows xs

pub whole_listed_if : {X : Type 0} (name : List ℕ) (shown : X → List Event) → ((x : X) → AreEntries (shown x))
    → (rows : ℕ) (xs : List X) → AreMembers (listed_if name shown rows xs)
whole_listed_if name shown whole rows xs =
    members_if (length xs == 0) [] (listed name shown rows xs) (λ s. refl) (whole_listed name shown whole rows xs)

pub whole_table : {X : Type 0} (fs : List NumberName) (ps : List Part) (name : List ℕ) (shown : X → List Event)
    → ((x : X) → AreEntries (shown x)) → (rows : ℕ) (xs : List X) → AreMembers (shown_table fs ps name shown rows xs)
whole_table fs ps name shown whole rows xs =
    members_append (shown_row fs ps) (listed name shown rows xs) (whole_row fs ps)
    (whole_listed name shown whole rows xs)
