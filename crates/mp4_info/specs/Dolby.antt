-- The string of Dolby Vision video (Dolby Vision Streams Within the ISO Base Media File Format, "Codecs parameter"):
-- the code of the sample entry, the profile and the level, each in at least two digits.
use Rattle.std.specs.Prelude.{ℕ, List, ◌++◌}
use Rattle.mp4_extra_pictures.specs.declared.dvcc.DolbyVisionConfig.{DolbyVisionConfig}
use Rattle.mp4_frame.specs.declared.four_cc.FourCC.{FourCC}
use Rattle.mp4_info.specs.Digits.{wide_element}
use Rattle.mp4_shown_json.specs.Tokens.{code_text}

unfoldable pub dolby_string : FourCC → DolbyVisionConfig → List ℕ
dolby_string code v = code_text code.value ++ (wide_element v.dv_profile ++ wide_element v.dv_level)
