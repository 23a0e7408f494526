-- The events of a metadata value (QuickTime File Format, "Value atom").
use Rattle.std.specs.Prelude.{ℕ, ℤ, pos, negsuc, ◌+◌, ◌/◌, ◌%◌, ◌==◌, ◌&&◌, ◌||◌, nat_le, int_le, Bool}
use Rattle.std.specs.Prelude.{List, [], ◌∷◌, if◌then◌else◌, length}
use Rattle.std.specs.Int.{w8, w16, w32, w64, cast_signed}
use Rattle.std.proofs.Common.{refl}
use denote.Bor.{Bor}
use Rattle.mp4_frame.specs.Bytes.{number}
use Rattle.mp4_shown.specs.Event.{Event, Shown, Text, field, seen_text, signed, text}
use Rattle.mp4_shown.specs.Event as shown
use Rattle.mp4_shown.specs.Members.{AreMembers, members_append, members_if, whole_run}
use Rattle.mp4_shown.specs.Runs.{BytesName, seen_bytes, shown_run}
use Rattle.mp4_shown.specs.declared.bytes_name.BytesAs.{BytesAs}
use Rattle.mp4_extra_tracks.specs.declared.data.ValueKind.{ValueKind}
use Rattle.mp4_extra_tracks.specs.declared.data.ValueKind.TheVariants as kinds

-- ---- the locale

abbrev pub is_letter : ℕ → Bool
is_letter n = (nat_le 65 n && nat_le n 90) || (nat_le 97 n && nat_le n 122)

-- the two letters of a country (ISO 3166), and the three of a packed language (ISO 639-2)
abbrev pub country_letters : ℕ → List ℕ
country_letters c = c / 256 ∷ c % 256 ∷ []

abbrev pub language_letters : ℕ → List ℕ
language_letters c = (96 + c / 1024) ∷ (96 + c / 32 % 32) ∷ (96 + c % 32) ∷ []

abbrev pub is_country : ℕ → Bool
is_country c = is_letter (c / 256) && is_letter (c % 256)

abbrev pub is_language : ℕ → Bool
is_language c = is_letter (96 + c / 1024) && (is_letter (96 + c / 32 % 32) && is_letter (96 + c % 32))

-- A part of a locale as its letters, or as the number of a list if it has none. 0 stands for all, and is left out.
abbrev pub shown_locale : List ℕ → ℕ → Bool → List ℕ → List Event
shown_locale name c has_letters letters =
    if c == 0 then [] else field name (if has_letters then text letters else shown.number c) ∷ []

pub whole_locale : (name : List ℕ) (c : ℕ) (has_letters : Bool) (letters : List ℕ)
    → AreMembers (shown_locale name c has_letters letters)
whole_locale name c has_letters letters =
    members_if (c == 0) [] (field name (if has_letters then text letters else shown.number c) ∷ []) (λ s. refl)
    (λ s. refl)

-- ---- the value

-- the kind of a value of n bytes, of a type that may be one of the well-known ones
abbrev pub kind_of : Bool → ℕ → ℕ → ValueKind
kind_of is_known t n =
    if is_known && (t == 1) then kinds.Text
    else if is_known && (t == 21 && (n == 1 || (n == 2 || (n == 4 || n == 8)))) then kinds.Signed
    else if is_known && (t == 22 && (n == 1 || (n == 2 || (n == 4 || n == 8)))) then kinds.Unsigned
    else kinds.Bytes

-- the signed number in 1, 2, 4 or 8 bytes
abbrev pub signed_in : List ℕ → ℤ
signed_in xs =
    if length xs == 1 then cast_signed w8 (number xs 0 1)
    else if length xs == 2 then cast_signed w16 (number xs 0 2)
    else if length xs == 4 then cast_signed w32 (number xs 0 4)
    else cast_signed w64 (number xs 0 8)

-- the number of bytes that a number has if they aren't shown
abbrev pub signed_width : ℤ → ℕ
signed_width z =
    if int_le (negsuc 127) z && int_le z (pos 127) then 1
    else if int_le (negsuc 32767) z && int_le z (pos 32767) then 2
    else if int_le (negsuc 2147483647) z && int_le z (pos 2147483647) then 4
    else 8

abbrev pub unsigned_width : ℕ → ℕ
unsigned_width n = if nat_le n 255 then 1 else if nat_le n 65535 then 2 else if nat_le n 4294967295 then 4 else 8

-- the names of a text, of a number, of the bytes of a number, and of other bytes
abbrev pub ValueNames : Type 0
ValueNames = BytesName × (Text × (BytesName × BytesName))

abbrev CodeBytes : Type 0
CodeBytes = Bor (List ℕ) × BytesAs × Bor (List ℕ)

abbrev pub seen_value : CodeBytes × (Bor (List ℕ) × (CodeBytes × CodeBytes)) → ValueNames
seen_value names = (seen_bytes names.0, (seen_text names.1.0, (seen_bytes names.1.1.0, seen_bytes names.1.1.1)))

-- a number, and its bytes unless they are as many as such a number has
abbrev pub shown_number_of : ValueNames → ℕ → Shown → ℕ → List ℕ → List Event
shown_number_of names rows value width xs =
    field names.1.0.now value ∷ (if width == length xs then [] else shown_run names.1.1.0 rows xs)

abbrev pub shown_kind : ValueNames → ℕ → ValueKind → List ℕ → List Event
shown_kind names rows kinds.Text xs = shown_run names.0 rows xs
shown_kind names rows kinds.Signed xs =
    shown_number_of names rows (signed (signed_in xs)) (signed_width (signed_in xs)) xs
shown_kind names rows kinds.Unsigned xs =
    shown_number_of names rows (shown.number (number xs 0 (length xs))) (unsigned_width (number xs 0 (length xs))) xs
shown_kind names rows kinds.Bytes xs = shown_run names.1.1.1 rows xs

-- whether the type is a well-known one, the type, and the bytes
abbrev pub shown_value : ValueNames → ℕ → Bool × (ℕ × List ℕ) → List Event
shown_value names rows v = shown_kind names rows (kind_of v.0 v.1.0 (length v.1.1)) v.1.1

whole_number_of : (names : ValueNames) (rows : ℕ) (value : Shown) (width : ℕ) (xs : List ℕ)
    → AreMembers (shown_number_of names rows value width xs)
whole_number_of names rows value width xs =
    members_append (field names.1.0.now value ∷ [])
    (if width == length xs then [] else shown_run names.1.1.0 rows xs) (λ s. refl)
    (members_if (width == length xs) [] (shown_run names.1.1.0 rows xs) (λ s. refl) (whole_run names.1.1.0 rows xs))

whole_kind : (names : ValueNames) (rows : ℕ) (kind : ValueKind) (xs : List ℕ)
    → AreMembers (shown_kind names rows kind xs)
whole_kind names rows kinds.Text xs = whole_run names.0 rows xs
whole_kind names rows kinds.Signed xs =
    whole_number_of names rows (signed (signed_in xs)) (signed_width (signed_in xs)) xs
whole_kind names rows kinds.Unsigned xs =
    whole_number_of names rows (shown.number (number xs 0 (length xs))) (unsigned_width (number xs 0 (length xs))) xs
whole_kind names rows kinds.Bytes xs = whole_run names.1.1.1 rows xs

pub whole_value : (names : ValueNames) (rows : ℕ) (v : Bool × (ℕ × List ℕ)) → AreMembers (shown_value names rows v)
whole_value names rows v = whole_kind names rows (kind_of v.0 v.1.0 (length v.1.1)) v.1.1
