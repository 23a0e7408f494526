-- The string of AVC video (RFC 6381, 3.3; ISO/IEC 14496-15, E.3): the code of the sample entry and six hexadecimal
-- digits, two each for the profile, for the byte with the constraint flags, and for the level. The letters are small,
-- as most programs write them.
use Rattle.std.specs.Prelude.{ℕ, List, [], ◌∷◌, ◌++◌, codes}
use Rattle.hex.specs.Hex.{encode_lower}
use Rattle.mp4_entries.specs.declared.avcc.AvcCBox.{AvcCBox}
use Rattle.mp4_frame.specs.declared.four_cc.FourCC.{FourCC}
use Rattle.mp4_shown_json.specs.Tokens.{code_text}

-- the three bytes, which are also those after the first one of a sequence set
abbrev pub avc_bytes : AvcCBox → List ℕ
avc_bytes v = v.avc_profile_indication ∷ v.profile_compatibility ∷ v.avc_level_indication ∷ []

unfoldable pub avc_string : FourCC → AvcCBox → List ℕ
avc_string code v = code_text code.value ++ (codes "." ++ encode_lower (avc_bytes v))
