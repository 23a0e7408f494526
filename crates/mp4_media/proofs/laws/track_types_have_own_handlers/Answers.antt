use Rattle.std.proofs.Common.{◌≡◌, Some, refl}
use Rattle.mp4_media.specs.Conversion.{by_text}
use Rattle.mp4_media.specs.TrackType.{handler_track_type, track_types, track_type_of}
use Rattle.mp4_media.specs.declared.track_type.TrackType.{TrackType}
use Rattle.mp4_media.specs.declared.track_type.TrackType.TheVariants.{Video}
use Rattle.mp4_media.proofs.Inverse.{by_text-inverse}
use Rattle.mp4_media.proofs.laws.track_types_have_own_handlers.Goals as goal

own : (v : TrackType) → by_text handler_track_type track_types (handler_track_type v) ≡ Some v
own Video = refl
own _ = refl

pub returns : goal.returns
unfolding track_type_of
returns c = by_text-inverse handler_track_type track_types own
