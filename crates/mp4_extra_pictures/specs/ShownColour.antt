-- The events of the colours of a video (ISO/IEC 14496-12, 12.1.5).
use Rattle.std.specs.Prelude.{ℕ, ◌==◌, ◌&&◌, List, [], ◌∷◌, false, if◌then◌else◌, length}
use Rattle.std.proofs.Common.{refl}
use denote.Bor.{Bor}
use Rattle.mp4_frame.specs.Bytes.{number}
use Rattle.mp4_frame.specs.FourCC.{four_cc_of}
use Rattle.mp4_declared.specs.declared.typed.OfType.{OfType}
use Rattle.mp4_declared.specs.declared.typed.OfType.TheVariants as of_type
use Rattle.mp4_shown.specs.Event.{Event, Text, seen_text, field, code, bytes, bytes_of_code}
use Rattle.mp4_shown.specs.Members.{AreMembers, whole_numbers}
use Rattle.mp4_shown.specs.Numbers.{NumberNames, seen_numbers, shown_numbers}
use Rattle.mp4_shown.specs.declared.number_name.NumberAs.{NumberAs}
use Rattle.mp4_extra_pictures.specs.declared.colr.TheConstants.{NCLX, NCLC, RICC, PROF}
use Rattle.mp4_extra_pictures.specs.declared.colr.ColourKind.{ColourKind}
use Rattle.mp4_extra_pictures.specs.declared.colr.ColourKind.TheVariants as kinds

-- the names of the type of colours, of numbers, of a profile, and of other bytes
abbrev pub ColourNames : Type 0
ColourNames = Text × (NumberNames × (Text × Text))

abbrev pub seen_colours : Bor (List ℕ)
    × (Bor (List (Bor (List ℕ) × NumberAs × Bor (List (ℕ × Bor (List ℕ))))) × (Bor (List ℕ) × Bor (List ℕ)))
    → ColourNames
seen_colours names = (seen_text names.0, (seen_numbers names.1.0, (seen_text names.1.1.0, seen_text names.1.1.1)))

-- n bytes after another type than nclx: a profile of ICC.1, the three numbers of QuickTime's nclc, or others
abbrev pub kind_of : ℕ → ℕ → ColourKind
kind_of tag n =
    if tag == RICC then kinds.Profile else if tag == PROF then kinds.Profile
    else if (tag == NCLC) && (n == 6) then kinds.Numbers else kinds.Unknown

abbrev pub numbers_in : List ℕ → List ℕ
numbers_in bs = number bs 0 2 ∷ number bs 2 2 ∷ number bs 4 2 ∷ []

abbrev pub shown_kind : ColourNames → ColourKind → List ℕ → List Event
shown_kind names kinds.Profile bs = field names.1.1.0.now (bytes bs) ∷ []
shown_kind names kinds.Numbers bs = shown_numbers false names.1.0.now (numbers_in bs)
shown_kind names kinds.Unknown bs = field names.1.1.1.now (bytes bs) ∷ []

-- the type of the colours, and what follows it
abbrev pub shown_colour : {A : Type 0} → (A → List ℕ) → ColourNames → OfType A (List ℕ) → List Event
shown_colour numbers names (of_type.Own c) =
    field names.0.now (code (bytes_of_code (four_cc_of NCLX))) ∷ shown_numbers false names.1.0.now (numbers c)
shown_colour numbers names (of_type.Other tag bs) =
    field names.0.now (code (bytes_of_code (four_cc_of tag))) ∷ shown_kind names (kind_of tag (length bs)) bs

whole_kind : (names : ColourNames) (kind : ColourKind) (bs : List ℕ) → AreMembers (shown_kind names kind bs)
whole_kind names kinds.Profile bs = λ s. refl
whole_kind names kinds.Numbers bs = whole_numbers names.1.0.now (numbers_in bs)
whole_kind names kinds.Unknown bs = λ s. refl

pub whole_colour : {A : Type 0} (numbers : A → List ℕ) (names : ColourNames) (v : OfType A (List ℕ))
    → AreMembers (shown_colour numbers names v)
whole_colour numbers names (of_type.Own c) = whole_numbers names.1.0.now (numbers c)
whole_colour numbers names (of_type.Other tag bs) = whole_kind names (kind_of tag (length bs)) bs
