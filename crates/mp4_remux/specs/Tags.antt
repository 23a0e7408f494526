-- The boxes of tags, as iTunes writes them (QuickTime File Format, "Metadata"), and the language of a track.
use Rattle.std.specs.Prelude.{ℕ, ◌+◌, ◌*◌, ◌-◌, ◌==◌, ◌&&◌, nat_le, Bool, List, [], ◌∷◌, ◌++◌, length, slice_index}
use Rattle.std.specs.Prelude.{None, Some, if◌then◌else◌, option_map}
use Rattle.std.specs.Int.{bytes_high_first}
use Rattle.std.specs.List.{list_all, starts_with}
use Rattle.std.specs.declared.option.Option.{Option}
use Rattle.mp4_frame.specs.declared.codes.TheConstants as known

-- a box with a header of 8 bytes: its size, its code, and its content (ISO/IEC 14496-12, 4.2)
abbrev pub box_bytes : ℕ → List ℕ → List ℕ
box_bytes code content = bytes_high_first 4 (length content + 8) ++ (bytes_high_first 4 code ++ content)

-- a `data` with a value of this type, for all countries and languages
abbrev pub data_box : ℕ → List ℕ → List ℕ
data_box kind value = box_bytes known.DATA (bytes_high_first 4 kind ++ ((0 ∷ 0 ∷ 0 ∷ 0 ∷ []) ++ value))

-- the type of a picture by its first bytes: 13 for JPEG, 14 for PNG
abbrev pub picture_type : List ℕ → Option ℕ
picture_type bytes =
    if starts_with ◌==◌ bytes (0xff ∷ 0xd8 ∷ 0xff ∷ []) then Some 13 else
    if starts_with ◌==◌ bytes (0x89 ∷ 0x50 ∷ 0x4e ∷ 0x47 ∷ 0x0d ∷ 0x0a ∷ 0x1a ∷ 0x0a ∷ []) then Some 14 else None

-- the `data` of a cover
abbrev pub cover_box : List ℕ → Option (List ℕ)
cover_box picture = option_map (λ kind. data_box kind picture) (picture_type picture)

abbrev pub is_letter : ℕ → Bool
is_letter c = nat_le 0x61 c && nat_le c 0x7a

-- the number of this letter, which begins at 1
abbrev pub letter_number : List ℕ → ℕ → ℕ
letter_number letters n = slice_index letters n - 0x60

-- three lower-case letters as one number, with five bits a letter (ISO/IEC 14496-12, 8.4.2.3)
abbrev pub packed_language : List ℕ → Option ℕ
packed_language letters =
    if (length letters == 3) && list_all is_letter letters
    then Some (letter_number letters 0 * 1024 + letter_number letters 1 * 32 + letter_number letters 2) else None
