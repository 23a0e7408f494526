-- The events of a handler (ISO/IEC 14496-12, 8.4.3; QuickTime File Format, "Handler reference atoms").
use Rattle.std.specs.Prelude.{ℕ, ◌-◌, ◌==◌, ◌&&◌, ◌||◌, not, nat_le, Bool, true, false, List, [], ◌∷◌, if◌then◌else◌}
use Rattle.std.specs.Prelude.{length, drop}
use Rattle.std.specs.Prelude.{slice_index}
use Rattle.std.proofs.Common.{refl}
use Rattle.mp4_frame.specs.FourCC.{number_of}
use Rattle.mp4_frame.specs.declared.four_cc.FourCC.{FourCC}
use Rattle.std.specs.Str.{is_utf8}
use Rattle.mp4_shown.specs.Event.{Event, field, code, bytes_of_code}
use Rattle.mp4_shown.specs.Members.{AreMembers, members_if}
use Rattle.mp4_shown.specs.Runs.{BytesName, is_ended, shown_text, unended}

-- a code, which is left out if it is 0
abbrev pub shown_set_code : List ℕ → FourCC → List Event
shown_set_code name c = if number_of c == 0 then [] else field name (code (bytes_of_code c)) ∷ []

pub whole_set_code : (name : List ℕ) (c : FourCC) → AreMembers (shown_set_code name c)
whole_set_code name c =
    members_if (number_of c == 0) [] (field name (code (bytes_of_code c)) ∷ []) (λ s. refl) (λ s. refl)

-- QuickTime counts the name: its first byte is the number of those after it, with or without a byte of 0 that ends
-- them.
abbrev pub is_counted : List ℕ → Bool
is_counted xs =
    nat_le 2 (length xs)
    && ((slice_index xs 0 == length xs - 1) || (is_ended xs && (slice_index xs 0 == length xs - 2)))

-- the name without the count
abbrev pub after_count : List ℕ → List ℕ
after_count xs = if is_counted xs then drop 1 xs else xs

-- no byte of 0 ends the name, and none has to, since the name is counted
abbrev pub is_bare : List ℕ → Bool
is_bare xs = is_counted xs && not (is_ended xs)

-- the usual form: in the standard a byte of 0 ends the name, and in QuickTime, which has types of components, it is
-- counted
abbrev pub is_usual : FourCC → List ℕ → Bool
is_usual component xs = if number_of component == 0 then is_ended xs && not (is_counted xs) else is_bare xs

-- all bytes follow from the text
abbrev pub says_all : FourCC → List ℕ → Bool
says_all component xs = is_usual component xs && is_utf8 (unended (after_count xs))

-- a name, and its bytes unless they follow from it
abbrev pub shown_name : BytesName → FourCC → List ℕ → List Event
shown_name name component xs =
    shown_text name.0.now name.2.now (says_all component xs) (unended (after_count xs)) xs

name_is_whole : (name second : List ℕ) (all : Bool) (t xs : List ℕ) → AreMembers (shown_text name second all t xs)
name_is_whole name second true t xs = λ s. refl
name_is_whole name second false t xs = λ s. refl

pub whole_name : (name : BytesName) (component : FourCC) (xs : List ℕ) → AreMembers (shown_name name component xs)
whole_name name component xs =
    name_is_whole name.0.now name.2.now (says_all component xs) (unended (after_count xs)) xs
