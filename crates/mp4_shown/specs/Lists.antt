-- The events of a list.
use Rattle.std.specs.Prelude.{ℕ, true, false, List, [], ◌∷◌, ◌++◌, flat_map, length, take}
use denote.Bor.{Bor}
use Rattle.mp4_shown.specs.Event.{Event, Text, seen_text, field, begin_list, item, begin_entry, end_entry, end_list}
use Rattle.mp4_shown.specs.Event.{number, bytes}
use Rattle.mp4_shown.specs.Numbers.{NumberName, shown_numbers}
use Rattle.mp4_shown.specs.declared.list_name.ListAs.{ListAs}
use Rattle.mp4_shown.specs.declared.list_name.ListAs.TheVariants as list_as

-- the name of a list, how it is shown, and the name of its count
abbrev pub ListName : Type 0
ListName = Text × ListAs × Text

abbrev pub seen_list : Bor (List ℕ) × ListAs × Bor (List ℕ) → ListName
seen_list l = (seen_text l.0, l.1, seen_text l.2)

-- a field with the number of entries, if the list has one
abbrev pub count_as : List ℕ → ListAs → ℕ → List Event
count_as name list_as.Entries n = []
count_as name list_as.Counted n = field name (number n) ∷ []
count_as name list_as.Items n = []

-- the beginning of a list of n entries: its count, and its number of entries
abbrev pub list_head : ListName → ℕ → List Event
list_head l n = count_as l.2.now l.1 n ++ (begin_list l.0.now n ∷ [])

-- an entry that has members
abbrev pub entry_of : List Event → List Event
entry_of es = begin_entry ∷ (es ++ end_entry ∷ [])

-- an entry of numbers: an item for each, or an entry with these members
abbrev pub row_as : ListAs → List NumberName → List ℕ → List Event
row_as list_as.Entries names ns = entry_of (shown_numbers false names ns)
row_as list_as.Counted names ns = entry_of (shown_numbers false names ns)
row_as list_as.Items names ns = shown_numbers true names ns

-- a list: its beginning, and its first entries, as many as are wanted
abbrev pub shown_list : {X : Type 0} → ListName → (X → List Event) → ℕ → List X → List Event
shown_list l shown rows xs =
    list_head l (length xs) ++ (flat_map shown (take rows xs) ++ end_list ∷ [])

-- an entry that is bytes
abbrev pub bytes_item : List ℕ → List Event
bytes_item row = item (bytes row) ∷ []
