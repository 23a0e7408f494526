-- A name is known, and a box read under it, by the first enum that knows the name.
use Rattle.std.proofs.Common.{◌≡◌, ℕ, Bool, true, false, ◌||◌, if◌then◌else◌, List, Option, None, Some, Result, Ok, Err}
use Rattle.std.proofs.Common.{refl, ap, ◌∙◌}
use Rattle.mp4_frame.specs.BoxType.{code_of}
use Rattle.mp4_frame.specs.declared.box_type.BoxType.{BoxType}
use Rattle.mp4_frame.specs.Members.{is_known, reading_known}
use Rattle.mp4_frame.specs.Reading.{Fault, Reading, and_then, done, map_reading, reading}
use Rattle.mp4_shown.specs.Catalogue.{Catalogue, Declarations, known_as, kinds, reads_of}
use Rattle.mp4_extra.specs.ExtraBox.{ExtraType, OfPicture, OfSound, OfSample, OfTrack, first_of, extra_types}
use Rattle.mp4_extra.specs.ExtraBox.{track_or_none, sample_or_later, sound_or_later, declarations}
use Rattle.mp4_extra.specs.ExtraBox.{known_any, reading_any}
use Rattle.mp4_extra_pictures.specs.PictureBox.{picture_types}
use Rattle.mp4_extra_samples.specs.SampleBox.{sample_types}
use Rattle.mp4_extra_sound.specs.SoundBox.{sound_types}
use Rattle.mp4_extra_tracks.specs.TrackBox.{track_types}
use Rattle.mp4_extra_pictures.specs.declared.picture_box.PictureType.{PictureType}
use Rattle.mp4_extra_samples.specs.declared.sample_box.SampleType.{SampleType}
use Rattle.mp4_extra_sound.specs.declared.sound_box.SoundType.{SoundType}
use Rattle.mp4_extra_tracks.specs.declared.track_box.TrackType.{TrackType}
use Rattle.mp4_extra.specs.declared.extra_box.ExtraBox.{ExtraBox}
use Rattle.mp4_extra.specs.declared.extra_box.ExtraBox.TheVariants as boxes

twice : {A B C : Type 0} (g : B → C) (f : A → B) (asks : Bool) (o : Result A Fault)
    → and_then asks o (λ v. done (g (f v)))
    ≡ map_reading g (and_then asks o (λ v. done (f v)))
twice g f true (Ok v) = refl
twice g f false (Ok v) = refl
twice g f asks (Err k) = refl

-- two functions applied one after the other
map_twice : {A B C : Type 0} (g : B → C) (f : A → B) (r : Reading A)
    → map_reading (λ v. g (f v)) r ≡ map_reading g (map_reading f r)
map_twice g f r = twice g f r.asks_memory r.outcome

module _ (picture : Declarations picture_types) (sound : Declarations sound_types) (sample : Declarations sample_types)
    (track : Declarations track_types) where
  abbrev all : Declarations extra_types
  all = declarations picture sound sample track

  known_first : {S A : Type 0} (c : Catalogue S A) (d : Declarations c) (f : S → ExtraType) (found : Option S)
      (others : Option ExtraType) → is_known (known_as extra_types all (first_of f found others))
      ≡ (is_known (known_as c d found) || is_known (known_as extra_types all others))
  known_first c d f (Some s) others = refl
  known_first c d f None others = refl

  known_last : (found : Option TrackType) → is_known (known_as extra_types all (first_of OfTrack found None))
      ≡ is_known (known_as track_types track found)
  known_last (Some t) = refl
  known_last None = refl

  pub known_extra : (name : BoxType) → is_known (kinds extra_types all name)
      ≡ known_any (kinds picture_types picture) (kinds sound_types sound) (kinds sample_types sample)
      (kinds track_types track) name
  known_extra name =
      let code = code_of name in
      let first = is_known (kinds picture_types picture name) in
      let second = is_known (kinds sound_types sound name) in
      let third = is_known (kinds sample_types sample name) in
      known_first picture_types picture OfPicture (picture_types.of_code code) (sound_or_later code)
      ∙ ap (λ (b : Bool). first || b) (known_first sound_types sound OfSound (sound_types.of_code code)
      (sample_or_later code)
      ∙ ap (λ (b : Bool). second || b) (known_first sample_types sample OfSample (sample_types.of_code code)
      (track_or_none code)
      ∙ ap (λ (b : Bool). third || b) (known_last (track_types.of_code code))))

  module _ (bytes : List ℕ) (start size : ℕ) where
    abbrev read : Option ExtraType → Reading ExtraBox
    read found = reading_known (known_as extra_types all found) bytes start size

    read_picture : (found : Option PictureType) (others : Option ExtraType) → read (first_of OfPicture found others)
        ≡ (if is_known (known_as picture_types picture found)
        then map_reading boxes.Picture (reading_known (known_as picture_types picture found) bytes start size)
        else read others)
    read_picture (Some t) others =
        map_twice boxes.Picture (picture_types.entry_of t).wrap
        (reading (reads_of picture_types picture t) bytes start size)
    read_picture None others = refl

    read_sound : (found : Option SoundType) (others : Option ExtraType) → read (first_of OfSound found others)
        ≡ (if is_known (known_as sound_types sound found)
        then map_reading boxes.Sound (reading_known (known_as sound_types sound found) bytes start size)
        else read others)
    read_sound (Some t) others =
        map_twice boxes.Sound (sound_types.entry_of t).wrap (reading (reads_of sound_types sound t) bytes start size)
    read_sound None others = refl

    read_sample : (found : Option SampleType) (others : Option ExtraType) → read (first_of OfSample found others)
        ≡ (if is_known (known_as sample_types sample found)
        then map_reading boxes.Sample (reading_known (known_as sample_types sample found) bytes start size)
        else read others)
    read_sample (Some t) others =
        map_twice boxes.Sample (sample_types.entry_of t).wrap
        (reading (reads_of sample_types sample t) bytes start size)
    read_sample None others = refl

    read_track : (found : Option TrackType) → read (first_of OfTrack found None)
        ≡ map_reading boxes.Track (reading_known (known_as track_types track found) bytes start size)
    read_track (Some t) =
        map_twice boxes.Track (track_types.entry_of t).wrap (reading (reads_of track_types track t) bytes start size)
    read_track None = refl

    pub reading_extra : (name : BoxType) → reading_known (kinds extra_types all name) bytes start size
        ≡ reading_any (kinds picture_types picture) (kinds sound_types sound) (kinds sample_types sample)
        (kinds track_types track) name bytes start size
    reading_extra name =
        let code = code_of name in
        let first = is_known (kinds picture_types picture name) in
        let second = is_known (kinds sound_types sound name) in
        let third = is_known (kinds sample_types sample name) in
        let one = map_reading boxes.Picture (reading_known (kinds picture_types picture name) bytes start size) in
        let two = map_reading boxes.Sound (reading_known (kinds sound_types sound name) bytes start size) in
        let three = map_reading boxes.Sample (reading_known (kinds sample_types sample name) bytes start size) in
        read_picture (picture_types.of_code code) (sound_or_later code)
        ∙ ap (λ (r : Reading ExtraBox). if first then one else r) (read_sound (sound_types.of_code code)
        (sample_or_later code)
        ∙ ap (λ (r : Reading ExtraBox). if second then two else r) (read_sample (sample_types.of_code code)
        (track_or_none code)
        ∙ ap (λ (r : Reading ExtraBox). if third then three else r) (read_track (track_types.of_code code))))
