-- The events of a metadata value (QuickTime File Format, "Data atom").
use Rattle.std.proofs.Common.{refl}
use Rattle.std.specs.Prelude.{ℕ, ℤ, pos, negsuc, ◌-◌, ◌^◌, ◌==◌, ◌&&◌, int_le, Bool, true, false, List, [], ◌∷◌}
use Rattle.std.specs.Prelude.{Option, Some, None, if◌then◌else◌, length, codes}
use Rattle.std.specs.Int.{w8, w16, w32, cast_signed}
use Rattle.mp4_frame.specs.Bytes.{number}
use Rattle.mp4_shown.specs.Event.{Event, field, signed, bytes}
use Rattle.mp4_shown.specs.Members.{AreMembers, members_if, whole_run}
use Rattle.mp4_shown.specs.Runs.{shown_run}
use Rattle.mp4_show.specs.declared.fields.metadata.TheConstants.{TEXT}

-- the signed number in 1, 2 or 4 bytes
abbrev pub integer : List ℕ → Option ℤ
integer xs =
    if length xs == 1 then Some (cast_signed w8 (number xs 0 1)) else if length xs == 2 then Some
    (cast_signed w16 (number xs 0 2)) else if length xs == 4 then Some (cast_signed w32 (number xs 0 4)) else None

-- the least of 1, 2 and 4 bytes that have room for a number
abbrev pub integer_width : ℤ → ℕ
integer_width z =
    if int_le (negsuc (2 ^ 7 - 1)) z && int_le z (pos (2 ^ 7 - 1)) then 1 else
    if int_le (negsuc (2 ^ 15 - 1)) z && int_le z (pos (2 ^ 15 - 1)) then 2 else 4

-- a number, and its bytes unless it needs as many
abbrev pub number_and_bytes : Bool → ℤ → List ℕ → List Event
number_and_bytes says_all z xs =
    field (codes "number") (signed z) ∷ (if says_all then [] else field (codes "number_hex") (bytes xs) ∷ [])

-- a number, or the bytes that are none
abbrev pub shown_integer : Option ℤ → List ℕ → List Event
shown_integer (Some z) xs = number_and_bytes (length xs == integer_width z) z xs
shown_integer None xs = field (codes "data_bytes") (bytes xs) ∷ []

-- a value of a type: a text, a number, or bytes
abbrev pub shown_value : ℕ → List ℕ → List Event
shown_value k xs =
    if k == 1 then shown_run TEXT 0 xs else if k == 21 then shown_integer (integer xs) xs
    else field (codes "data_bytes") (bytes xs) ∷ []

whole_number : (says_all : Bool) (z : ℤ) (xs : List ℕ) → AreMembers (number_and_bytes says_all z xs)
whole_number true z xs = λ s. refl
whole_number false z xs = λ s. refl

whole_integer : (z : Option ℤ) (xs : List ℕ) → AreMembers (shown_integer z xs)
whole_integer (Some z) xs = whole_number (length xs == integer_width z) z xs
whole_integer None xs = λ s. refl

pub whole_value : (k : ℕ) (xs : List ℕ) → AreMembers (shown_value k xs)
whole_value k xs =
    members_if (k == 1) (shown_run TEXT 0 xs)
    (if k == 21 then shown_integer (integer xs) xs else field (codes "data_bytes") (bytes xs) ∷ [])
    (whole_run TEXT 0 xs)
    (members_if (k == 21) (shown_integer (integer xs) xs) (field (codes "data_bytes") (bytes xs) ∷ [])
    (whole_integer (integer xs) xs) (λ s. refl))
