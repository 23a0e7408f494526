-- The strings of MPEG-4 audio and video (RFC 6381, 3.3): the code of the sample entry, the object type in two
-- hexadecimal digits, and what the object type has as a further element.
use Rattle.std.specs.Prelude.{ℕ, ◌==◌, ◌&&◌, not, List, [], ◌∷◌, ◌++◌, codes, None, Some, if◌then◌else◌}
use Rattle.std.specs.declared.option.Option.{Option}
use Rattle.hex.specs.Hex.{encode_upper}
use Rattle.mp4_frame.specs.declared.four_cc.FourCC.{FourCC}
use Rattle.mp4_info.specs.Digits.{element}
use Rattle.mp4_info.specs.Visual.{visual_level}
use Rattle.mp4_shown_json.specs.Tokens.{code_text}
use Rattle.mp4_sound.specs.declared.decoder_config.DecoderConfigDescriptor.{DecoderConfigDescriptor}

abbrev pub further_element : Option ℕ → List ℕ
further_element None = []
further_element (Some n) = element n

unfoldable pub mpeg4_string : FourCC → ℕ → Option ℕ → List ℕ
mpeg4_string code object_type further =
    code_text code.value ++ (codes "." ++ (encode_upper (object_type ∷ []) ++ further_element further))

-- MPEG-4 audio, 0x40, has the audio object type (ISO/IEC 14496-3, 1.5.1.1). The type 0 is none
abbrev pub audio_type : DecoderConfigDescriptor → Option ℕ
audio_type v =
    if (v.object_type_indication == 0x40) && not (v.dec_specific.profile == 0) then Some v.dec_specific.profile
    else None

abbrev pub audio_string : FourCC → DecoderConfigDescriptor → List ℕ
audio_string code v = mpeg4_string code v.object_type_indication (audio_type v)

-- MPEG-4 video, 0x20, has the profile and level in the sequence header, among the bytes of the `esds`
abbrev pub video_level : DecoderConfigDescriptor → List ℕ → Option ℕ
video_level v bytes = if v.object_type_indication == 0x20 then visual_level bytes else None

abbrev pub video_string : FourCC → DecoderConfigDescriptor → List ℕ → List ℕ
video_string code v bytes = mpeg4_string code v.object_type_indication (video_level v bytes)
