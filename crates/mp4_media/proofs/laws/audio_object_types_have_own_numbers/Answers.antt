use Rattle.std.proofs.Common.{◌≡◌, Some, refl}
use Rattle.mp4_media.specs.Conversion.{by_number}
use Rattle.mp4_media.specs.AudioObjectType.{number_audio_object_type, audio_object_types, audio_object_type_of}
use Rattle.mp4_media.specs.declared.audio_object_type.AudioObjectType.{AudioObjectType}
use Rattle.mp4_media.specs.declared.audio_object_type.AudioObjectType.TheVariants.{AacMain}
use Rattle.mp4_media.proofs.Inverse.{by_number-inverse}
use Rattle.mp4_media.proofs.laws.audio_object_types_have_own_numbers.Goals as goal

own : (v : AudioObjectType)
    → by_number number_audio_object_type audio_object_types (number_audio_object_type v) ≡ Some v
own AacMain = refl
own _ = refl

pub returns : goal.returns
unfolding audio_object_type_of
returns c = by_number-inverse number_audio_object_type audio_object_types own
