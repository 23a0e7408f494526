use Rattle.std.proofs.Common.{◌≡◌, Some, refl}
use Rattle.mp4_media.specs.Conversion.{by_text}
use Rattle.mp4_media.specs.MediaType.{text_media_type, media_types, media_type_of}
use Rattle.mp4_media.specs.declared.media_type.MediaType.{MediaType}
use Rattle.mp4_media.specs.declared.media_type.MediaType.TheVariants.{H264}
use Rattle.mp4_media.proofs.Inverse.{by_text-inverse}
use Rattle.mp4_media.proofs.laws.media_types_have_own_texts.Goals as goal

own : (v : MediaType) → by_text text_media_type media_types (text_media_type v) ≡ Some v
own H264 = refl
own _ = refl

pub returns : goal.returns
unfolding media_type_of
returns c = by_text-inverse text_media_type media_types own
