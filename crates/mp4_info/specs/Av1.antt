-- The string of AV1 video (AV1 Codec ISO Media File Format Binding, 5): the code of the sample entry, the profile, the
-- level and tier of operating point 0, the bit depth, and optional elements, which are all there or all left out.
use Rattle.std.specs.Prelude.{ℕ, ◌==◌, ◌&&◌, Bool, not, List, [], ◌++◌, codes, decimal, None, Some, if◌then◌else◌}
use Rattle.std.specs.declared.option.Option.{Option}
use Rattle.mp4_extra_pictures.specs.declared.av1c.Av1Config.{Av1Config}
use Rattle.mp4_extra_pictures.specs.declared.colr.Nclx.{Nclx}
use Rattle.mp4_frame.specs.declared.four_cc.FourCC.{FourCC}
use Rattle.mp4_info.specs.Digits.{bit, element, wide_element}
use Rattle.mp4_shown_json.specs.Tokens.{code_text}

-- the number of bits of a sample (AV1 Bitstream, 5.5.2): only profile 2 has 12
abbrev pub bit_depth : Av1Config → ℕ
bit_depth v = if not v.high_bitdepth then 8 else if v.seq_profile == 2 && v.twelve_bit then 12 else 10

-- M for the Main tier, and H for the High tier
abbrev pub tier_letter : Bool → List ℕ
tier_letter is_high = if is_high then codes "H" else codes "M"

-- the elements of every string
unfoldable pub mandatory_elements : Av1Config → List ℕ
mandatory_elements v =
    element v.seq_profile
    ++ (wide_element v.seq_level_idx_0 ++ (tier_letter v.seq_tier_0 ++ wide_element (bit_depth v)))

-- the position of colour samples, which only 4:2:0 has
abbrev pub sample_position : Av1Config → ℕ
sample_position v = if v.chroma_subsampling_x && v.chroma_subsampling_y then v.chroma_sample_position else 0

-- the subsampling, in three digits
unfoldable pub subsampling_element : Av1Config → List ℕ
subsampling_element v =
    element (bit v.chroma_subsampling_x)
    ++ (decimal (bit v.chroma_subsampling_y) ++ decimal (sample_position v))

-- the colours, as in ISO/IEC 23091-2
unfoldable pub colour_elements : Nclx → List ℕ
colour_elements c =
    wide_element c.colour_primaries
    ++ (wide_element c.transfer_characteristics
    ++ (wide_element c.matrix_coefficients ++ element (bit c.full_range_flag)))

-- the values that a string without the optional elements stands for: 4:2:0 with an unknown position, and the colours
-- of BT.709 in a limited range
abbrev pub has_default_sampling : Av1Config → Bool
has_default_sampling v =
    not v.monochrome && (v.chroma_subsampling_x && (v.chroma_subsampling_y && (v.chroma_sample_position == 0)))

abbrev pub has_default_colours : Nclx → Bool
has_default_colours c =
    (c.colour_primaries == 1)
    && ((c.transfer_characteristics == 1) && ((c.matrix_coefficients == 1) && not c.full_range_flag))

unfoldable pub all_elements : Av1Config → Nclx → List ℕ
all_elements v c = element (bit v.monochrome) ++ (subsampling_element v ++ colour_elements c)

-- the optional elements. They are left out if the colours are not known, since a value for these would be invented
unfoldable pub optional_elements : Av1Config → Option Nclx → List ℕ
optional_elements v None = []
optional_elements v (Some c) = if has_default_sampling v && has_default_colours c then [] else all_elements v c

unfoldable pub av1_string : FourCC → Av1Config → Option Nclx → List ℕ
av1_string code v colours = code_text code.value ++ (mandatory_elements v ++ optional_elements v colours)
