-- The place of a member in an object.
use Rattle.std.specs.Prelude.{◌≡◌, ℕ, Bool, List, Some, get_or, remove}
use Rattle.std.specs.Str.{bytes_eq}
use Rattle.json.specs.Value.{value_view, members_view}
use Rattle.mp4_shown.specs.Object.{first_of}
use Rattle.json.specs.declared.value.Value.{Value}
use denote.Bor.{Bor}

-- a member, as the code has it
abbrev pub Member : Type 0 → Type 0
Member A = Bor (List ℕ) × Value A

-- this is the name of the member
abbrev pub is_called : {A : Type 0} → List ℕ → Member A → Bool
is_called name m = bytes_eq m.0.now name

-- the member with this index is the first one with this name, and the others follow in their order
abbrev pub IsFirst : {A : Type 0} → List ℕ → List (Member A) → ℕ → Type 0
IsFirst {A} name ms i =
    (d : Member A) → first_of name (members_view ms) ≡ Some (value_view (get_or ms i d).1, members_view (remove ms i))
