-- The track types, with their handler types (ISO/IEC 14496-12, 8.4.3) and printed names.
use Rattle.std.specs.Prelude.{ℕ, List, [], ◌∷◌, Option, codes}
use Rattle.mp4_media.specs.Conversion.{by_text}
use Rattle.mp4_media.specs.declared.track_type.TrackType.{TrackType}
use Rattle.mp4_media.specs.declared.track_type.TrackType.TheVariants as types

-- the table: handler types and names
abbrev pub row_track_type : TrackType → List ℕ × List ℕ
row_track_type types.Video = (codes "vide", codes "Video")
row_track_type types.Audio = (codes "soun", codes "Audio")
row_track_type types.Subtitle = (codes "sbtl", codes "Subtitle")

abbrev pub handler_track_type : TrackType → List ℕ
handler_track_type t = (row_track_type t).0

abbrev pub text_track_type : TrackType → List ℕ
text_track_type t = (row_track_type t).1

abbrev pub track_types : List TrackType
track_types = types.Video ∷ types.Audio ∷ types.Subtitle ∷ []

-- the track type that has this handler type
unfoldable pub track_type_of : List ℕ → Option TrackType
track_type_of handler = by_text handler_track_type track_types handler
