-- The media types, with their strings.
use Rattle.std.specs.Prelude.{ℕ, List, [], ◌∷◌, Option, codes}
use Rattle.mp4_media.specs.Conversion.{by_text}
use Rattle.mp4_media.specs.declared.media_type.MediaType.{MediaType}
use Rattle.mp4_media.specs.declared.media_type.MediaType.TheVariants as types

-- the table of strings
abbrev pub text_media_type : MediaType → List ℕ
text_media_type types.H264 = codes "h264"
text_media_type types.H265 = codes "h265"
text_media_type types.VP9 = codes "vp9"
text_media_type types.AAC = codes "aac"
text_media_type types.TTXT = codes "ttxt"

abbrev pub media_types : List MediaType
media_types = types.H264 ∷ types.H265 ∷ types.VP9 ∷ types.AAC ∷ types.TTXT ∷ []

-- the media type that has this string
unfoldable pub media_type_of : List ℕ → Option MediaType
media_type_of text = by_text text_media_type media_types text
