-- The time of the media of a track that is presented at 0.
use Rattle.std.proofs.Common.{◌≡◌, ℕ, zero, suc, ◌+◌, ◌-◌, ◌<◌, ◌≤◌, true, false, List, [], ◌∷◌, ◌++◌, length, get_or}
use Rattle.std.proofs.Common.{None, Some, Result, Ok, refl, sym, ap, subst, ◌∙◌, below_more, arith, append-nil}
use Rattle.std.proofs.Common.{append_assoc}
use Rattle.std.specs.Prelude.{ℤ, pos, ◌-ℤ◌, ◌==◌, Bool, IfSome}
use Rattle.std.specs.declared.option.Option.{Option}
use Rattle.std.proofs.lemmas.Bool.{ne_eqb}
use Rattle.mp4_flat.specs.Boxes.{reads_mvhd}
use Rattle.mp4_flat.specs.declared.mvhd.MvhdBox.{MvhdBox}
use Rattle.mp4_frame.specs.FourCC.{four_cc_of}
use Rattle.mp4_frame.specs.declared.codes.TheConstants as codes
use Rattle.mp4_movie.proofs.Levels.{next_in}
use Rattle.mp4_movie.specs.Levels.{Found, all_in, first_in}
use Rattle.mp4_movie.specs.Movies.{of_track, timescale, traks}
use Rattle.mp4_movie.specs.Problems.{Records}
use Rattle.mp4_movie.specs.Reads.{own_reading}
use Rattle.mp4_movie.specs.declared.error.BoxError.{BoxError}
use Rattle.mp4_movie.specs.declared.info.TrackInfo.{TrackInfo}
use Rattle.mp4_samples.proofs.EditTimes.{next_edit, nothing_before}
use Rattle.mp4_samples.specs.Edits.{durations_before, edit_in, is_empty_edit}
use Rattle.mp4_tables.specs.Boxes.{reads_elst}
use Rattle.mp4_tables.specs.ElstEntry.{is_long}
use Rattle.mp4_tables.specs.declared.elst.ElstBox.{ElstBox}
use Rattle.mp4_tables.specs.declared.elst_entry.ElstEntry.{ElstEntry}
use Rattle.mp4_walk.specs.FileBoxes.{boxes_of}
use Rattle.mp4_walk.specs.declared.tree_box.TreeBox.{TreeBox}
use Rattle.mp4_remux.proofs.BothFiles.{IfInfos, info_at, infos_counted}
use Rattle.mp4_remux.specs.Origins.{HasOrigins, IsOrigin, IsOriginBy, IsOriginIn, PresentsAt, edit_list, header_box}
use Rattle.mp4_remux.specs.Origins.{late_by, list_at, list_box, list_boxes, list_boxes_in, movie_scale, scale_at}
use Rattle.mp4_remux.specs.Told.{at_track}
use Rattle.mp4_remux.specs.declared.parts.part.Part.{Part}

-- the edit list of a track by those of all tracks
pub list_of_track : (file : List ℕ) (fs : List Found) (n : ℕ) → n < length fs
    → of_track (edit_list file) n fs ≡ list_at file (get_or (list_boxes_in fs) n None)
list_of_track file [] n less = absurd (omega (arith, less))
list_of_track file (f ∷ fs) zero less = refl
list_of_track file (f ∷ fs) (suc n) less =
    let more : (suc n == 0) ≡ false = ne_eqb _ _ (λ z. absurd (omega (arith, z))) in
    let one : suc n - 1 ≡ n = omega arith in
    rw (more, one) (list_of_track file fs n (omega (arith, less)))

-- the list of one more track
pub one_more_list : (rest : List TreeBox) (old : List (Option TreeBox)) (f : Found) (all : List (Option TreeBox))
    → Some f ≡ first_in 1 (four_cc_of codes.TRAK) rest
    → old ++ list_boxes_in (all_in 1 (four_cc_of codes.TRAK) rest) ≡ all
    → (old ++ list_box f.after ∷ []) ++ list_boxes_in (all_in 1 (four_cc_of codes.TRAK) f.after) ≡ all
one_more_list rest old f all is so_far =
    append_assoc old (list_box f.after ∷ []) (list_boxes_in (all_in 1 (four_cc_of codes.TRAK) f.after))
    ∙ ap (λ (fs : List Found). old ++ list_boxes_in fs) (sym (next_in 1 (four_cc_of codes.TRAK) rest (Some f) is))
    ∙ so_far

-- no track is left
pub all_lists : (rest : List TreeBox) (old all : List (Option TreeBox))
    → None ≡ first_in 1 (four_cc_of codes.TRAK) rest
    → old ++ list_boxes_in (all_in 1 (four_cc_of codes.TRAK) rest) ≡ all → old ≡ all
all_lists rest old all is so_far =
    sym (append-nil old)
    ∙ ap (λ (fs : List Found). old ++ list_boxes_in fs) (sym (next_in 1 (four_cc_of codes.TRAK) rest None is))
    ∙ so_far

-- the box of a list is read
pub no_list : (bytes : Option (List ℕ)) → IfSome bytes (λ B. list_at B None ≡ Ok None)
no_list None = tt
no_list (Some B) = refl

pub list_read : (bytes : Option (List ℕ)) (x : TreeBox) (v : ElstBox)
    → IfSome bytes (λ B. (own_reading reads_elst B x).outcome ≡ Ok v)
    → IfSome bytes (λ B. list_at B (Some x) ≡ Ok (Some v))
list_read None x v is = tt
list_read (Some B) x v is = rw is refl

-- the header of the movie is read
pub scale_read : (bytes : Option (List ℕ)) (x : TreeBox) (v : MvhdBox)
    → IfSome bytes (λ B. (own_reading reads_mvhd B x).outcome ≡ Ok v)
    → IfSome bytes (λ B. scale_at B (Some x) ≡ Ok v.timescale)
scale_read None x v is = tt
scale_read (Some B) x v is = rw is refl

pub scale_found : (bytes : Option (List ℕ)) (boxes : List TreeBox) (x : TreeBox) (scale : ℕ)
    → IfSome bytes (λ B. boxes ≡ boxes_of B) → header_box boxes ≡ Some x
    → IfSome bytes (λ B. scale_at B (Some x) ≡ Ok scale) → IfSome bytes (λ B. movie_scale B ≡ Ok scale)
scale_found None boxes x scale are is read = tt
scale_found (Some B) boxes x scale are is read =
    ap (λ (xs : List TreeBox). scale_at B (header_box xs)) (sym are)
    ∙ ap (λ (o : Option TreeBox). scale_at B o) is
    ∙ read

-- the origin by a list
pub origin_made : (b : ElstBox) (movie media last delay late : ℕ) (o : Option ℤ) → length b.entries ≡ last + 1
    → ((k : ℕ) → k < last → is_empty_edit (is_long b.version) (edit_in b.entries k) ≡ true)
    → is_empty_edit (is_long b.version) (edit_in b.entries last) ≡ false
    → (edit_in b.entries last).media_rate ≡ 1 → (edit_in b.entries last).media_rate_fraction ≡ 0
    → delay ≡ durations_before b.entries last → late ≡ late_by delay movie media
    → IfSome o (λ r. r ≡ pos (edit_in b.entries last).media_time -ℤ pos late)
    → IfSome o (IsOriginBy b movie media)
origin_made b movie media last delay late None counted empty plays rate fraction is_delay is_late is = tt
origin_made b movie media last delay late (Some r) counted empty plays rate fraction is_delay is_late is = record {
  last = last;
  counted = counted;
  empty = empty;
  plays = plays;
  rate = rate;
  fraction = fraction;
  origin = is
      ∙ ap (λ (n : ℕ). pos (edit_in b.entries last).media_time -ℤ pos n)
      (is_late ∙ ap (λ (n : ℕ). late_by n movie media) is_delay);
}

-- the origin of a track
pub presented : (bytes : Option (List ℕ)) (found : Option TreeBox) (movie : ℕ) (media : Result ℕ BoxError) (ticks : ℕ)
    (list : Option ElstBox) (o : ℤ) → media ≡ Ok ticks → IfSome bytes (λ B. list_at B found ≡ Ok list)
    → IsOriginIn list movie ticks o → IfSome bytes (λ B. PresentsAt B found movie media o)
presented None found movie media ticks list o is_media is_list is = tt
presented (Some B) found movie media ticks list o is_media is_list is = record {
  list = list;
  ticks = ticks;
  is_list = is_list;
  is_media = is_media;
  is = is;
}

-- the origins of the tracks before number n
abbrev pub OriginsSoFar : Part → ℕ → Option (List ℕ) → Type 0
OriginsSoFar p n r = IfSome r (λ B. (k : ℕ) → k < n → IsOrigin B k (get_or p.origins.items k (pos 0)))

pub no_origins : (p : Part) (r : Option (List ℕ)) → OriginsSoFar p 0 r
no_origins p None = tt
no_origins p (Some B) = λ k lt. absurd (omega (arith, lt))

pub one_more_origin : (p : Part) (now r : Option (List ℕ)) (n movie : ℕ) (boxes : List TreeBox)
    (lists : List (Option TreeBox)) (found : Option TreeBox) (ts : List TrackInfo) (t : TrackInfo)
    → now ≡ r → n < length ts → IfInfos r ts → IfSome r (λ B. movie_scale B ≡ Ok movie)
    → IfSome r (λ B. boxes ≡ boxes_of B) → lists ≡ list_boxes boxes → found ≡ get_or lists n None
    → IfSome now
    (λ B. PresentsAt B found movie (get_or ts n t).timescale (get_or p.origins.items n (pos 0)))
    → OriginsSoFar p n r → OriginsSoFar p (n + 1) r
one_more_origin p now None n movie boxes lists found ts t same less are scale known listed is_found here old = tt
one_more_origin p now (Some B) n movie boxes lists found ts t same less are scale known listed is_found here old =
    let tracks = traks (boxes_of B) in
    let here' : PresentsAt B found movie (get_or ts n t).timescale (get_or p.origins.items n (pos 0)) =
    subst (λ (o : Option (List ℕ)). IfSome o
    (λ B. PresentsAt B found movie (get_or ts n t).timescale (get_or p.origins.items n (pos 0)))) same here in
    let counted : length ts ≡ length tracks = infos_counted B 0 tracks ts are in
    let all : list_boxes_in tracks ≡ lists =
    ap (λ (xs : List TreeBox). list_boxes xs) (sym known) ∙ sym listed in
    below_more (λ (k : ℕ). IsOrigin B k (get_or p.origins.items k (pos 0))) n old (record {
      list = here'.list;
      movie = movie;
      media = here'.ticks;
      is_list = list_of_track B tracks n (omega (arith, less, counted))
          ∙ ap (λ (ls : List (Option TreeBox)). list_at B (get_or ls n None)) all
          ∙ ap (λ (o : Option TreeBox). list_at B o) (sym is_found)
          ∙ here'.is_list;
      is_movie = scale;
      is_media = subst (λ (m : Result ℕ BoxError). Records m (at_track timescale B n)) here'.is_media
          (info_at B 0 tracks ts n t are less).scale;
      is = here'.is;
    })

-- all origins
pub all_origins : (p : Part) (r : Option (List ℕ)) (n : ℕ) (ts : List TrackInfo) → length ts ≤ n → IfInfos r ts
    → OriginsSoFar p n r → IfSome r (HasOrigins p)
all_origins p None n ts past are old = tt
all_origins p (Some B) n ts past are old =
    let counted = infos_counted B 0 (traks (boxes_of B)) ts are in
    λ k less. old k (omega (arith, past, counted, less))

-- the delay before one more edit
pub no_delay : (es : List ElstEntry) (long : Bool)
    → ((k : ℕ) → k < 0 → is_empty_edit long (edit_in es k) ≡ true) × (0 ≡ durations_before es 0)
no_delay es long = (λ k lt. absurd (omega (arith, lt)), sym (nothing_before es))

pub more_delay : (es : List ElstEntry) (long : Bool) (n delay sum : ℕ) → n < length es
    → is_empty_edit long (edit_in es n) ≡ true → sum ≡ delay + (edit_in es n).segment_duration
    → ((k : ℕ) → k < n → is_empty_edit long (edit_in es k) ≡ true) → delay ≡ durations_before es n
    → ((k : ℕ) → k < n + 1 → is_empty_edit long (edit_in es k) ≡ true) × (sum ≡ durations_before es (n + 1))
more_delay es long n delay sum within here is empty so_far = (
  below_more (λ (k : ℕ). is_empty_edit long (edit_in es k) ≡ true) n empty here,
  is
      ∙ ap (λ (d : ℕ). d + (edit_in es n).segment_duration) so_far
      ∙ sym (next_edit es n within),
)
