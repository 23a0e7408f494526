-- The string of VP8 and VP9 video (VP Codec ISO Media File Format Binding, "Codecs Parameter String"): the code of the
-- sample entry, the profile, the level and the bit depth, and optional elements, which are all there or all left out.
-- Each number has at least two digits.
use Rattle.std.specs.Prelude.{ℕ, ◌==◌, ◌&&◌, Bool, not, List, [], ◌++◌, if◌then◌else◌}
use Rattle.mp4_entries.specs.declared.vpcc.VpccBox.{VpccBox}
use Rattle.mp4_frame.specs.declared.four_cc.FourCC.{FourCC}
use Rattle.mp4_info.specs.Digits.{bit, wide_element}
use Rattle.mp4_shown_json.specs.Tokens.{code_text}

-- the elements of every string
unfoldable pub mandatory_elements : VpccBox → List ℕ
mandatory_elements v = wide_element v.profile ++ (wide_element v.level ++ wide_element v.bit_depth)

-- the optional elements
unfoldable pub colour_elements : VpccBox → List ℕ
colour_elements v =
    wide_element v.color_primaries
    ++ (wide_element v.transfer_characteristics
    ++ (wide_element v.matrix_coefficients ++ wide_element (bit v.video_full_range_flag)))

unfoldable pub all_elements : VpccBox → List ℕ
all_elements v = wide_element v.chroma_subsampling ++ colour_elements v

-- the values that a string without the optional elements stands for: 4:2:0 with colour samples beside those of luma,
-- and the colours of BT.709 in a limited range
abbrev pub has_defaults : VpccBox → Bool
has_defaults v =
    (v.chroma_subsampling == 1)
    && ((v.color_primaries == 1)
    && ((v.transfer_characteristics == 1) && ((v.matrix_coefficients == 1) && not v.video_full_range_flag)))

unfoldable pub optional_elements : VpccBox → List ℕ
optional_elements v = if has_defaults v then [] else all_elements v

unfoldable pub vp_string : FourCC → VpccBox → List ℕ
vp_string code v = code_text code.value ++ (mandatory_elements v ++ optional_elements v)
