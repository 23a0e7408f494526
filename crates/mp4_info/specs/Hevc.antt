-- The string of HEVC video (ISO/IEC 14496-15, E.3): the code of the sample entry, and the elements below.
use Rattle.std.specs.Prelude.{ℕ, ◌*◌, ◌/◌, ◌%◌, ◌^◌, ◌==◌, Bool, List, [], ◌++◌, codes, decimal, if◌then◌else◌}
use Rattle.std.specs.Int.{w32, reverse_bits}
use Rattle.mp4_extra_pictures.specs.declared.hvcc.HevcProfile.{HevcProfile}
use Rattle.mp4_frame.specs.declared.four_cc.FourCC.{FourCC}
use Rattle.mp4_info.specs.Digits.{hexadecimal}
use Rattle.mp4_shown_json.specs.Tokens.{code_text}

-- no letter for the profile space 0, and A, B and C for 1, 2 and 3
abbrev pub space_letter : ℕ → List ℕ
space_letter n = if n == 0 then [] else if n == 1 then codes "A" else if n == 2 then codes "B" else codes "C"

-- L for the Main tier, and H for the High tier
abbrev pub tier_letter : Bool → List ℕ
tier_letter is_high = if is_high then codes "H" else codes "L"

-- the profile
unfoldable pub profile_element : HevcProfile → List ℕ
profile_element v = codes "." ++ (space_letter v.general_profile_space ++ decimal v.general_profile_idc)

-- the compatibility flags in hexadecimal digits: profile 0 has the lowest bit, and the highest in the box
unfoldable pub compatibility_element : HevcProfile → List ℕ
compatibility_element v = codes "." ++ hexadecimal (reverse_bits w32 v.general_profile_compatibility_flags)

-- the tier and the level
unfoldable pub level_element : HevcProfile → List ℕ
level_element v = codes "." ++ (tier_letter v.general_tier_flag ++ decimal v.general_level_idc)

-- A byte of the constraint flags in hexadecimal digits; the last byte has the place 1, and the byte before it 2 ^ 8.
-- Bytes of zero are left out if only such bytes follow.
unfoldable pub constraint_element : ℕ → ℕ → List ℕ
constraint_element place flags =
    if flags % (256 * place) == 0 then [] else codes "." ++ hexadecimal (flags / place % 256)

-- the six bytes of the constraint flags
unfoldable pub constraint_elements : ℕ → List ℕ
constraint_elements flags =
    constraint_element (2 ^ 40) flags
    ++ (constraint_element (2 ^ 32) flags
    ++ (constraint_element (2 ^ 24) flags
    ++ (constraint_element (2 ^ 16) flags
    ++ (constraint_element (2 ^ 8) flags ++ constraint_element 1 flags))))

unfoldable pub hevc_string : FourCC → HevcProfile → List ℕ
hevc_string code v =
    code_text code.value
    ++ (profile_element v
    ++ (compatibility_element v
    ++ (level_element v ++ constraint_elements v.general_constraint_indicator_flags)))
