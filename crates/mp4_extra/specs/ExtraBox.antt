-- The types of boxes of this crate: those of the four enums.
use Rattle.std.specs.Prelude.{ℕ, Bool, ◌||◌, if◌then◌else◌, List, Option, None, Some, Ok, Err}
use Rattle.mp4_frame.specs.declared.box_type.BoxType.{BoxType}
use Rattle.mp4_frame.specs.Members.{Known, is_known, reading_known}
use Rattle.mp4_frame.specs.Reading.{Reading, map_reading}
use Rattle.mp4_shown.specs.Catalogue.{Entry, Catalogue, Declarations, code_document}
use Rattle.mp4_shown.specs.Taking.{Taking}
use Rattle.json.specs.Json.{Json}
use Rattle.mp4_extra_pictures.specs.PictureBox.{picture_types}
use Rattle.mp4_extra_samples.specs.SampleBox.{sample_types}
use Rattle.mp4_extra_sound.specs.SoundBox.{sound_types}
use Rattle.mp4_extra_tracks.specs.TrackBox.{track_types}
use Rattle.mp4_extra_pictures.specs.declared.picture_box.PictureType.{PictureType}
use Rattle.mp4_extra_samples.specs.declared.sample_box.SampleType.{SampleType}
use Rattle.mp4_extra_sound.specs.declared.sound_box.SoundType.{SoundType}
use Rattle.mp4_extra_tracks.specs.declared.track_box.TrackType.{TrackType}
use Rattle.mp4_extra_pictures.specs.declared.picture_box.PictureBox.{PictureBox}
use Rattle.mp4_extra_samples.specs.declared.sample_box.SampleBox.{SampleBox}
use Rattle.mp4_extra_sound.specs.declared.sound_box.SoundBox.{SoundBox}
use Rattle.mp4_extra_tracks.specs.declared.track_box.TrackBox.{TrackBox}
use Rattle.mp4_extra.specs.declared.extra_box.ExtraBox.{ExtraBox}
use Rattle.mp4_extra.specs.declared.extra_box.ExtraBox.TheVariants as boxes

pub data ExtraType : Type 0 where
  OfPicture : PictureType → ExtraType
  OfSound : SoundType → ExtraType
  OfSample : SampleType → ExtraType
  OfTrack : TrackType → ExtraType

-- a type of boxes that A holds, as one that E holds
abbrev pub put : {A E : Type 0} → (A → E) → Entry A → Entry E
put wrap e = record { code = e.code; Fields = e.Fields; wrap = λ x. wrap (e.wrap x) }

abbrev pub entry_of : ExtraType → Entry ExtraBox
entry_of (OfPicture t) = put boxes.Picture (picture_types.entry_of t)
entry_of (OfSound t) = put boxes.Sound (sound_types.entry_of t)
entry_of (OfSample t) = put boxes.Sample (sample_types.entry_of t)
entry_of (OfTrack t) = put boxes.Track (track_types.entry_of t)

-- the first type that is present
abbrev pub first_of : {S T : Type 0} → (S → T) → Option S → Option T → Option T
first_of f (Some s) others = Some (f s)
first_of f None others = others

abbrev pub track_or_none : ℕ → Option ExtraType
track_or_none code = first_of OfTrack (track_types.of_code code) None

abbrev pub sample_or_later : ℕ → Option ExtraType
sample_or_later code = first_of OfSample (sample_types.of_code code) (track_or_none code)

abbrev pub sound_or_later : ℕ → Option ExtraType
sound_or_later code = first_of OfSound (sound_types.of_code code) (sample_or_later code)

-- the type of the boxes of a code
abbrev pub extra_of_code : ℕ → Option ExtraType
extra_of_code code = first_of OfPicture (picture_types.of_code code) (sound_or_later code)

-- the type of a box and its fields
abbrev pub opened : ExtraBox → (t : ExtraType) × (entry_of t).Fields
opened (boxes.Picture b) = (OfPicture (picture_types.opened b).0, (picture_types.opened b).1)
opened (boxes.Sound b) = (OfSound (sound_types.opened b).0, (sound_types.opened b).1)
opened (boxes.Sample b) = (OfSample (sample_types.opened b).0, (sample_types.opened b).1)
opened (boxes.Track b) = (OfTrack (track_types.opened b).0, (track_types.opened b).1)

abbrev pub extra_types : Catalogue ExtraType ExtraBox
extra_types = record { entry_of = entry_of; of_code = extra_of_code; opened = opened }

-- the declarations of all types
abbrev pub declarations : Declarations picture_types → Declarations sound_types → Declarations sample_types
    → Declarations track_types → Declarations extra_types
declarations picture sound sample track (OfPicture t) = picture t
declarations picture sound sample track (OfSound t) = sound t
declarations picture sound sample track (OfSample t) = sample t
declarations picture sound sample track (OfTrack t) = track t

-- what is known of a name, and the reading under it, by the enum that knows the name
module _ (picture : BoxType → Known PictureBox) (sound : BoxType → Known SoundBox) (sample : BoxType → Known SampleBox)
    (track : BoxType → Known TrackBox) where
  abbrev pub known_any : BoxType → Bool
  known_any name =
      is_known (picture name) || (is_known (sound name) || (is_known (sample name) || is_known (track name)))

  abbrev pub reading_any : BoxType → List ℕ → ℕ → ℕ → Reading ExtraBox
  reading_any name bytes start size =
      if is_known (picture name) then map_reading boxes.Picture (reading_known (picture name) bytes start size) else
      if is_known (sound name) then map_reading boxes.Sound (reading_known (sound name) bytes start size) else
      if is_known (sample name) then map_reading boxes.Sample (reading_known (sample name) bytes start size) else
      map_reading boxes.Track (reading_known (track name) bytes start size)

-- the box that a text is, or else another one
abbrev pub first_document : {A E : Type 0} → (A → E) → Taking (Option A) → Taking (Option E) → Taking (Option E)
first_document wrap (Ok (Some b)) others = Ok (Some (wrap b))
first_document wrap (Ok None) others = others
first_document wrap (Err fault) others = Err fault

-- the box that a text is, of the type with a code, if there is one
abbrev pub extra_document : Declarations picture_types → Declarations sound_types → Declarations sample_types
    → Declarations track_types → ℕ → Option Json → Taking (Option ExtraBox)
extra_document picture sound sample track code j =
    first_document boxes.Picture (code_document picture_types picture code j)
    (first_document boxes.Sound (code_document sound_types sound code j)
    (first_document boxes.Sample (code_document sample_types sample code j)
    (first_document boxes.Track (code_document track_types track code j) (Ok None))))
