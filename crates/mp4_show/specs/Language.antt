-- The meaning of a language's code (ISO/IEC 14496-12, 8.4.2; QuickTime File Format, "Language code values").
use Rattle.std.specs.Prelude.{ℕ, List, ◌==◌, nat_lt, if◌then◌else◌, codes}
use Rattle.mp4_flat.specs.Language.{language_code}
use Rattle.mp4_shown.specs.Event.{Shown, named, text}
use Rattle.mp4_show.specs.declared.language.LanguageKind.{LanguageKind}
use Rattle.mp4_show.specs.declared.language.LanguageKind.TheVariants as kinds

-- below 0x400 a language by its number on the Macintosh, and 0x7FFF none
abbrev pub language_kind : ℕ → LanguageKind
language_kind code =
    if nat_lt code 0x400 then kinds.Macintosh else if code == 0x7FFF then kinds.Unspecified else kinds.Letters

-- a language of a kind: its letters, or the number of its code
abbrev pub language_as : LanguageKind → List ℕ → ℕ → Shown
language_as kinds.Letters letters code = text letters
language_as kinds.Macintosh letters code = named code (codes "Macintosh")
language_as kinds.Unspecified letters code = named code (codes "unspecified")

-- the language with these letters
abbrev pub shown_language : List ℕ → Shown
shown_language letters = language_as (language_kind (language_code letters)) letters (language_code letters)
