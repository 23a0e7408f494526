-- A type of track boxes is found by its code, and no other is.
use Rattle.std.proofs.Common.{◌≡◌, ℕ, Some, refl}
use Rattle.mp4_shown.specs.CatalogueLaws.{IsCatalogue, code_among}
use Rattle.mp4_extra_tracks.specs.TrackBox.{entry_of, opened, track_types, track_of_code}
use Rattle.mp4_extra_tracks.specs.declared.track_box.TheConstants.{TYPES}
use Rattle.mp4_extra_tracks.specs.declared.track_box.TrackType.{TrackType}
use Rattle.mp4_extra_tracks.specs.declared.track_box.TrackType.TheVariants as types
use Rattle.mp4_extra_tracks.specs.declared.track_box.TrackBox.{TrackBox}
use Rattle.mp4_extra_tracks.specs.declared.track_box.TrackBox.TheVariants as boxes

reopened : (v : TrackBox) → (entry_of (opened v).0).wrap (opened v).1 ≡ v
reopened (boxes.AlisBox fields) = refl
reopened _ = refl

is_opened : (t : TrackType) (x : (entry_of t).Fields) → opened ((entry_of t).wrap x) ≡ (t, x)
is_opened types.AlisBox x = refl
is_opened _ x = refl

type_found : (t : TrackType) → track_of_code (entry_of t).code ≡ Some t
unfolding track_of_code
type_found types.AlisBox = refl
type_found _ = refl

code_found : (code : ℕ) (t : TrackType) → track_of_code code ≡ Some t → code ≡ (entry_of t).code
unfolding track_of_code
code_found code t e = code_among entry_of TYPES.now code t e

pub track_laws : IsCatalogue track_types
track_laws = record { reopened = reopened; is_opened = is_opened; found = type_found; own_code = code_found }
