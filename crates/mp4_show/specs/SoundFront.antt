-- The fields of a sample entry of sound, and their events.
use Rattle.std.proofs.Common.{refl}
use Rattle.std.specs.Prelude.{ℕ, ◌==◌, ◌&&◌, Bool, List, [], ◌∷◌, ◌++◌, Option, Some, None, if◌then◌else◌}
use Rattle.std.specs.Prelude.{codes, length, nat_le}
use Rattle.mp4_frame.specs.Bytes.{number as uint}
use Rattle.mp4_shown.specs.Event.{Event, Shown, field}
use Rattle.mp4_shown.specs.Members.{AreMembers, members_append, members_if}
use Rattle.mp4_shown.specs.Numbers.{NumberName}
use Rattle.mp4_show.specs.Row.{Part, number, number_if, shown_row, whole_row}

-- QuickTime's version, if it is wanted
unfoldable pub version_of : Bool → List ℕ → Option ℕ
version_of quicktime xs = if quicktime then Some (uint xs 8 2) else None

-- The common fields (ISO/IEC 14496-12, 12.2.3): data_reference_index, QuickTime's version, channelcount, samplesize and
-- samplerate.
abbrev pub common_row : Bool → List ℕ → List Part
common_row quicktime xs =
    number (uint xs 6 2)
    ∷ number_if (version_of quicktime xs)
    ∷ number (uint xs 16 2)
    ∷ number (uint xs 18 2)
    ∷ number (uint xs 24 4)
    ∷ []

-- the entry has the fields of version 1 or of version 2
unfoldable pub has_first : Bool → List ℕ → Bool
has_first quicktime xs = quicktime && (uint xs 8 2 == 1) && nat_le 44 (length xs)

unfoldable pub has_second : Bool → List ℕ → Bool
has_second quicktime xs = quicktime && (uint xs 8 2 == 2) && nat_le 64 (length xs)

-- those of version 1 (QuickTime File Format, "Sound sample description (version 1)")
abbrev pub first_row : List ℕ → List Part
first_row xs =
    number (uint xs 28 4)
    ∷ number (uint xs 32 4)
    ∷ number (uint xs 36 4)
    ∷ number (uint xs 40 4)
    ∷ []

-- those of version 2 after the rate (QuickTime File Format, "Sound sample description (version 2)")
abbrev pub second_row : List ℕ → List Part
second_row xs =
    number (uint xs 40 4)
    ∷ number (uint xs 48 4)
    ∷ number (uint xs 52 4)
    ∷ number (uint xs 56 4)
    ∷ number (uint xs 60 4)
    ∷ []

abbrev pub shown_first : List NumberName → Bool → List ℕ → List Event
shown_first names quicktime xs = if has_first quicktime xs then shown_row names (first_row xs) else []

-- the rate is a number of IEEE 754
abbrev pub shown_second : List NumberName → Bool → List ℕ → Shown → List Event
shown_second names quicktime xs rate =
    if has_second quicktime xs then field (codes "audioSampleRate") rate ∷ shown_row names (second_row xs) else []

-- the fields of an entry, with the names of the common ones, of those of version 1 and of those of version 2
abbrev pub shown_sound : List NumberName → List NumberName → List NumberName → Bool → List ℕ → Shown → List Event
shown_sound common first second quicktime xs rate =
    shown_row common (common_row quicktime xs)
    ++ (shown_first first quicktime xs ++ shown_second second quicktime xs rate)

pub whole_sound : (common first second : List NumberName) (quicktime : Bool) (xs : List ℕ) (rate : Shown)
    → AreMembers (shown_sound common first second quicktime xs rate)
whole_sound common first second quicktime xs rate =
    let in_second =
    members_append (field (codes "audioSampleRate") rate ∷ []) (shown_row second (second_row xs)) (λ s. refl)
    (whole_row second (second_row xs)) in
    members_append (shown_row common (common_row quicktime xs))
    (shown_first first quicktime xs ++ shown_second second quicktime xs rate)
    (whole_row common (common_row quicktime xs))
    (members_append (shown_first first quicktime xs) (shown_second second quicktime xs rate)
    (members_if (has_first quicktime xs) (shown_row first (first_row xs)) [] (whole_row first (first_row xs))
    (λ s. refl))
    (members_if (has_second quicktime xs) (field (codes "audioSampleRate") rate ∷ shown_row second (second_row xs)) []
    in_second (λ s. refl)))
