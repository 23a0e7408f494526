-- The language of a track (ISO/IEC 14496-12, 8.4.2 and 8.4.6).
use Rattle.std.specs.Prelude.{ℕ, ◌-◌, ◌==◌, ◌&&◌, nat_le, nat_lt, Bool, List, [], ◌∷◌, codes, length, take, slice_index}
use Rattle.std.specs.Prelude.{None, Some, if◌then◌else◌}
use Rattle.std.specs.List.{list_all}
use Rattle.std.specs.Str.{bytes_eq}
use Rattle.std.specs.declared.option.Option.{Option}
use Rattle.mp4_extra_tracks.specs.declared.elng.Elng.{Elng}

-- a text without the zero byte that ends it
abbrev pub without_end : List ℕ → List ℕ
without_end bytes =
    if nat_lt 0 (length bytes) && (slice_index bytes (length bytes - 1) == 0) then take (length bytes - 1) bytes
    else bytes

-- the tag of an extended language
abbrev pub tag_of : Option Elng → List ℕ
tag_of None = []
tag_of (Some v) = without_end v.extended_language

-- the letters of a media header. The numbers of QuickTime are no letters: the language is undetermined
abbrev pub is_letter : ℕ → Bool
is_letter c = nat_le 97 c && nat_le c 122

abbrev pub are_letters : List ℕ → Bool
are_letters bytes = list_all is_letter bytes

-- the letters of the number 0, which is English in QuickTime ("Language Code Values")
abbrev pub of_zero : List ℕ
of_zero = 0x60 ∷ 0x60 ∷ 0x60 ∷ []

abbrev pub letters_or_und : List ℕ → List ℕ
letters_or_und letters =
    if bytes_eq letters of_zero then codes "eng" else if are_letters letters then letters else codes "und"

abbrev pub if_some : List ℕ → List ℕ → List ℕ
if_some tag letters = if length tag == 0 then letters else tag

-- the tag, unless it is empty, and otherwise the letters of the media header
abbrev pub language_of : Option Elng → List ℕ → List ℕ
language_of elng letters = if_some (tag_of elng) letters
