-- No two of the four enums have a type of the same code, so a type of this crate is found by its code, and no other is.
use Rattle.std.proofs.Common.{◌≡◌, ℕ, Option, None, Some, refl, ap, subst, ◌∙◌}
use Rattle.mp4_shown.specs.CatalogueLaws.{IsCatalogue}
use Rattle.mp4_extra.specs.ExtraBox.{ExtraType, OfPicture, OfSound, OfSample, OfTrack, entry_of, first_of, opened}
use Rattle.mp4_extra.specs.ExtraBox.{track_or_none, sample_or_later, sound_or_later, extra_of_code, extra_types}
use Rattle.mp4_extra_pictures.specs.PictureBox.{picture_types, picture_of_code}
use Rattle.mp4_extra_pictures.specs.PictureBoxLaws.{picture_laws}
use Rattle.mp4_extra_samples.specs.SampleBox.{sample_types, sample_of_code}
use Rattle.mp4_extra_samples.specs.SampleBoxLaws.{sample_laws}
use Rattle.mp4_extra_sound.specs.SoundBox.{sound_types, sound_of_code}
use Rattle.mp4_extra_sound.specs.SoundBoxLaws.{sound_laws}
use Rattle.mp4_extra_tracks.specs.TrackBox.{track_types}
use Rattle.mp4_extra_tracks.specs.TrackBoxLaws.{track_laws}
use Rattle.mp4_extra_pictures.specs.declared.picture_box.PictureType.{PictureType}
use Rattle.mp4_extra_samples.specs.declared.sample_box.SampleType.{SampleType}
use Rattle.mp4_extra_samples.specs.declared.sample_box.SampleType.TheVariants as sample
use Rattle.mp4_extra_sound.specs.declared.sound_box.SoundType.{SoundType}
use Rattle.mp4_extra_sound.specs.declared.sound_box.SoundType.TheVariants as sound
use Rattle.mp4_extra_tracks.specs.declared.track_box.TrackType.{TrackType}
use Rattle.mp4_extra_tracks.specs.declared.track_box.TrackType.TheVariants as track
use Rattle.mp4_extra.specs.declared.extra_box.ExtraBox.{ExtraBox}
use Rattle.mp4_extra.specs.declared.extra_box.ExtraBox.TheVariants as boxes

sound_no_picture : (t : SoundType) → picture_types.of_code (sound_types.entry_of t).code ≡ None
unfolding picture_of_code
sound_no_picture sound.AlacBox = refl
sound_no_picture _ = refl

sample_no_picture : (t : SampleType) → picture_types.of_code (sample_types.entry_of t).code ≡ None
unfolding picture_of_code
sample_no_picture sample.CslgBox = refl
sample_no_picture _ = refl

sample_no_sound : (t : SampleType) → sound_types.of_code (sample_types.entry_of t).code ≡ None
unfolding sound_of_code
sample_no_sound sample.CslgBox = refl
sample_no_sound _ = refl

track_no_picture : (t : TrackType) → picture_types.of_code (track_types.entry_of t).code ≡ None
unfolding picture_of_code
track_no_picture track.DataBox = refl
track_no_picture _ = refl

track_no_sound : (t : TrackType) → sound_types.of_code (track_types.entry_of t).code ≡ None
unfolding sound_of_code
track_no_sound track.DataBox = refl
track_no_sound _ = refl

track_no_sample : (t : TrackType) → sample_types.of_code (track_types.entry_of t).code ≡ None
unfolding sample_of_code
track_no_sample track.DataBox = refl
track_no_sample _ = refl

-- the codes of the types before a type are passed over
past : {S : Type 0} (f : S → ExtraType) (found : Option S) (others : Option ExtraType) → found ≡ None
    → first_of f found others ≡ others
past {S} f found others none = ap (λ (o : Option S). first_of f o others) none

-- and the type that is present is found
there : {S : Type 0} (f : S → ExtraType) (found : Option S) (others : Option ExtraType) (s : S) → found ≡ Some s
    → first_of f found others ≡ Some (f s)
there {S} f found others s is = ap (λ (o : Option S). first_of f o others) is

type_found : (t : ExtraType) → extra_of_code (entry_of t).code ≡ Some t
type_found (OfPicture t) =
    let code = (picture_types.entry_of t).code in
    there OfPicture (picture_types.of_code code) (sound_or_later code) t (picture_laws.found t)
type_found (OfSound t) =
    let code = (sound_types.entry_of t).code in
    past OfPicture (picture_types.of_code code) (sound_or_later code) (sound_no_picture t)
    ∙ there OfSound (sound_types.of_code code) (sample_or_later code) t (sound_laws.found t)
type_found (OfSample t) =
    let code = (sample_types.entry_of t).code in
    past OfPicture (picture_types.of_code code) (sound_or_later code) (sample_no_picture t)
    ∙ (past OfSound (sound_types.of_code code) (sample_or_later code) (sample_no_sound t)
    ∙ there OfSample (sample_types.of_code code) (track_or_none code) t (sample_laws.found t))
type_found (OfTrack t) =
    let code = (track_types.entry_of t).code in
    past OfPicture (picture_types.of_code code) (sound_or_later code) (track_no_picture t)
    ∙ (past OfSound (sound_types.of_code code) (sample_or_later code) (track_no_sound t)
    ∙ (past OfSample (sample_types.of_code code) (track_or_none code) (track_no_sample t)
    ∙ there OfTrack (track_types.of_code code) None t (track_laws.found t)))

-- what holds of the type in either place holds of the first
in_either : {S : Type 0} (P : ExtraType → Type 0) (f : S → ExtraType) (found : Option S) (others : Option ExtraType)
    (t : ExtraType) → ((s : S) → found ≡ Some s → P (f s)) → (others ≡ Some t → P t)
    → first_of f found others ≡ Some t → P t
in_either P f (Some s) others t first later is = let same : f s ≡ t = cc in subst P same (first s refl)
in_either P f None others t first later is = later is

code_found : (code : ℕ) (t : ExtraType) → extra_of_code code ≡ Some t → code ≡ (entry_of t).code
code_found code t is =
    let P : ExtraType → Type 0 = λ s. code ≡ (entry_of s).code in
    in_either P OfPicture (picture_types.of_code code) (sound_or_later code) t (picture_laws.own_code code)
    (in_either P OfSound (sound_types.of_code code) (sample_or_later code) t (sound_laws.own_code code)
    (in_either P OfSample (sample_types.of_code code) (track_or_none code) t (sample_laws.own_code code)
    (in_either P OfTrack (track_types.of_code code) None t (track_laws.own_code code) (λ e. absurd cc)))) is

reopened : (v : ExtraBox) → (entry_of (opened v).0).wrap (opened v).1 ≡ v
reopened (boxes.Picture b) = ap boxes.Picture (picture_laws.reopened b)
reopened (boxes.Sound b) = ap boxes.Sound (sound_laws.reopened b)
reopened (boxes.Sample b) = ap boxes.Sample (sample_laws.reopened b)
reopened (boxes.Track b) = ap boxes.Track (track_laws.reopened b)

abbrev as_picture : (t : PictureType) × (picture_types.entry_of t).Fields → (t : ExtraType) × (entry_of t).Fields
as_picture o = (OfPicture o.0, o.1)

abbrev as_sound : (t : SoundType) × (sound_types.entry_of t).Fields → (t : ExtraType) × (entry_of t).Fields
as_sound o = (OfSound o.0, o.1)

abbrev as_sample : (t : SampleType) × (sample_types.entry_of t).Fields → (t : ExtraType) × (entry_of t).Fields
as_sample o = (OfSample o.0, o.1)

abbrev as_track : (t : TrackType) × (track_types.entry_of t).Fields → (t : ExtraType) × (entry_of t).Fields
as_track o = (OfTrack o.0, o.1)

is_opened : (t : ExtraType) (x : (entry_of t).Fields) → opened ((entry_of t).wrap x) ≡ (t, x)
is_opened (OfPicture t) x = ap as_picture (picture_laws.is_opened t x)
is_opened (OfSound t) x = ap as_sound (sound_laws.is_opened t x)
is_opened (OfSample t) x = ap as_sample (sample_laws.is_opened t x)
is_opened (OfTrack t) x = ap as_track (track_laws.is_opened t x)

pub extra_laws : IsCatalogue extra_types
extra_laws = record { reopened = reopened; is_opened = is_opened; found = type_found; own_code = code_found }
