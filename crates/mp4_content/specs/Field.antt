-- The steps to a value in a JSON value, by a text such as `entries[0].media_time`.
use Rattle.std.specs.Prelude.{ℕ, ◌-◌, ◌^◌, ◌==◌, ◌&&◌, Bool, nat_lt, List, [], ◌∷◌, ◌++◌, length, take}
use Rattle.std.specs.Prelude.{slice_index, Option, None, Some, option_and_then, option_map, if◌then◌else◌}
use Rattle.std.specs.Char.{is_digit}
use Rattle.std.specs.List.{list_all, slice_split}
use Rattle.std.specs.Str.Parse.{digits_value, without_leading_plus}
use Rattle.json.specs.Find.{at, get}
use Rattle.json.specs.Json.{Json}
use Rattle.mp4_content.specs.declared.field.Step.{Step}
use Rattle.mp4_content.specs.declared.field.Step.TheVariants as steps

-- a step to a member with a name, or to an entry with a number
pub data Place : Type 0 where
  Named : List ℕ → Place
  Numbered : ℕ → Place

abbrev pub place_of : Step → Place
place_of (steps.Member name) = Named name.now
place_of (steps.Entry n) = Numbered n

-- these are decimal digits, at least one, and their number has 64 bits
abbrev pub are_digits : List ℕ → Bool
are_digits ds = nat_lt 0 (length ds) && list_all (λ c. is_digit c 10) ds && nat_lt (digits_value 10 ds) (2 ^ 64)

-- the number of decimal digits, which may have a plus in front
abbrev pub number_in : List ℕ → Option ℕ
number_in text =
    if are_digits (without_leading_plus text) then Some (digits_value 10 (without_leading_plus text)) else None

-- the number before a bracket
abbrev pub entry_number : List ℕ → Option ℕ
entry_number text = if slice_index text (length text - 1) == 93 then number_in (take (length text - 1) text) else None

abbrev pub after_step : Option Place → Option (List Place) → Option (List Place)
after_step None places = None
after_step (Some place) places = option_map (λ ps. place ∷ ps) places

-- the entries that numbers before brackets stand for
abbrev pub entries_in : List (List ℕ) → Option (List Place)
entries_in [] = Some []
entries_in (text ∷ texts) = after_step (option_map Numbered (entry_number text)) (entries_in texts)

-- a member, and entries of it
abbrev pub member_in : List (List ℕ) → Option (List Place)
member_in [] = None
member_in (name ∷ numbers) = option_map (λ ps. Named name ∷ ps) (entries_in numbers)

-- what a name, and numbers in brackets after it, stand for
abbrev pub member_places : List ℕ → Option (List Place)
member_places text = member_in (slice_split (λ b. b == 91) text)

-- what several such texts stand for, one after the other
abbrev pub places_in : List (List ℕ) → Option (List Place)
places_in [] = Some []
places_in (text ∷ texts) = option_and_then (λ ps. option_map (λ qs. ps ++ qs) (places_in texts)) (member_places text)

-- the steps of a text: names and numbers in brackets, separated by points
abbrev pub field_places : List ℕ → Option (List Place)
field_places field = places_in (slice_split (λ b. b == 46) field)

-- the value at the end of a step
abbrev pub value_after : Place → Json → Option Json
value_after (Named name) j = get name j
value_after (Numbered n) j = at n j

-- the value at the end of several steps
abbrev pub value_at : List Place → Json → Option Json
value_at [] j = Some j
value_at (p ∷ ps) j = option_and_then (value_at ps) (value_after p j)
