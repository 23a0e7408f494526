-- The events of numbers.
use Rattle.std.specs.Prelude.{ℕ, ℤ, ◌==◌, Bool, false, List, [], ◌∷◌, if◌then◌else◌, flat_map, map}
use Rattle.std.specs.List.{zip}
use denote.Bor.{Bor}
use Rattle.mp4_shown.specs.Event.{Text, Meaning, Meanings, seen_text, seen_meanings, Shown, Event, number, signed}
use Rattle.mp4_shown.specs.Event.{named}
use Rattle.mp4_shown.specs.Event.{flags, date, fixed, signed_fixed, hex, field, item}
use Rattle.mp4_shown.specs.declared.number_name.NumberAs.{NumberAs}
use Rattle.mp4_shown.specs.declared.number_name.NumberAs.TheVariants as number_as

-- the name of a number, how it is shown, and what its values or flags mean
abbrev pub NumberName : Type 0
NumberName = Text × NumberAs × Meanings

abbrev pub seen_number : Bor (List ℕ) × NumberAs × Bor (List (ℕ × Bor (List ℕ))) → NumberName
seen_number f = (seen_text f.0, f.1, seen_meanings f.2)

abbrev pub NumberNames : Type 0
NumberNames = record { now : List NumberName }

abbrev pub seen_numbers : Bor (List (Bor (List ℕ) × NumberAs × Bor (List (ℕ × Bor (List ℕ))))) → NumberNames
seen_numbers fs = record { now = map seen_number fs.now }

-- the number with the first meaning that it has in the list, if it has one
abbrev pub named_in : List Meaning → ℕ → Shown
named_in [] n = number n
named_in (m ∷ ms) n = if m.0 == n then named n m.1.now else named_in ms n

abbrev pub value_as : List Meaning → NumberAs → ℕ → Shown
value_as ms number_as.Plain n = number n
value_as ms number_as.Named n = named_in ms n
value_as ms (number_as.Flags digits) n = flags n digits ms
value_as ms number_as.Date n = date n
value_as ms (number_as.Fixed bits) n = fixed n bits
value_as ms (number_as.Hex count) n = hex n count
value_as ms (number_as.Reserved usual) n = number n

abbrev pub signed_as : NumberAs → ℤ → Shown
signed_as number_as.Plain z = signed z
signed_as number_as.Named z = signed z
signed_as (number_as.Flags digits) z = signed z
signed_as number_as.Date z = signed z
signed_as (number_as.Fixed bits) z = signed_fixed z bits
signed_as (number_as.Hex count) z = signed z
signed_as (number_as.Reserved usual) z = signed z

-- a reserved number that the standard has too is left out
abbrev pub is_hidden : NumberAs → ℕ → Bool
is_hidden number_as.Plain n = false
is_hidden number_as.Named n = false
is_hidden (number_as.Flags digits) n = false
is_hidden number_as.Date n = false
is_hidden (number_as.Fixed bits) n = false
is_hidden (number_as.Hex count) n = false
is_hidden (number_as.Reserved usual) n = n == usual

abbrev pub value_of : NumberName → ℕ → Shown
value_of f n = value_as f.2.now f.1 n

abbrev pub shown_number : NumberName → ℕ → List Event
shown_number f n = if is_hidden f.1 n then [] else field f.0.now (value_of f n) ∷ []

abbrev pub shown_signed : NumberName → ℤ → List Event
shown_signed f z = field f.0.now (signed_as f.1 z) ∷ []

-- a number of an entry, as an item of the list or under its name
abbrev pub shown_in : Bool → NumberName × ℕ → List Event
shown_in as_items p = if as_items then item (value_of p.0 p.1) ∷ [] else shown_number p.0 p.1

-- the numbers of an entry, each by the name of its place
abbrev pub shown_numbers : Bool → List NumberName → List ℕ → List Event
shown_numbers as_items fs ns = flat_map (shown_in as_items) (zip fs ns)
