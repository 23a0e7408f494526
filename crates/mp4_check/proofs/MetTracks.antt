-- The state stored of the tracks of a movie, one track after the other.
use Rattle.std.proofs.Common.{◌≡◌, ℕ, Bool, true, false, List, [], ◌∷◌, ◌++◌, None, Some, eqb, refl}
use Rattle.std.proofs.Common.{sym, ap, ◌∙◌}
use Rattle.std.specs.Prelude.{◌==◌, ◌&&◌, ◌||◌, not, is_some}
use Rattle.std.specs.BTreeMap.{get}
use Rattle.std.specs.Option.{option_or}
use Rattle.std.specs.Ordering.{nat_cmp}
use Rattle.std.specs.declared.option.Option.{Option}
use Rattle.std.proofs.Math.Bool.{or-false}
use Rattle.std.proofs.lemmas.Bool.{eqb-true}
use Rattle.std.proofs.lemmas.List.Sums.{fold-append}
use Rattle.mp4_check.specs.Durations.{longer}
use Rattle.mp4_check.specs.Headers.{track_header}
use Rattle.mp4_check.specs.References.{is_away}
use Rattle.mp4_check.specs.TrackFaults.{IsMet, first_header, has_track_id, header_for, is_track_away, longer_track}
use Rattle.mp4_check.specs.TrackFaults.{longest_track}
use Rattle.mp4_check.specs.declared.headers.TrackHeader.{TrackHeader}
use Rattle.mp4_check.specs.declared.tracks.Met.{Met}
use Rattle.mp4_movie.specs.Levels.{Found}
use Rattle.mp4_lemmas.proofs.Booleans.{by_bool}

pub header_more : (file : List ℕ) (id : ℕ) (fs : List Found) (f : Found)
    → first_header file id (fs ++ f ∷ [])
    ≡ option_or (first_header file id fs) (header_for id (track_header file f.after))
header_more file id [] f =
    by_bool (has_track_id id (track_header file f.after)) (λ yes. rw yes refl) (λ no. rw no refl)
header_more file id (g ∷ fs) f =
    by_bool (has_track_id id (track_header file g.after)) (λ yes. rw yes refl)
    (λ no. rw no (header_more file id fs f))

-- A track is away if the first one with its track_ID is.
pub away_more : (file : List ℕ) (id : ℕ) (fs : List Found) (f : Found)
    → is_track_away file id (fs ++ f ∷ [])
    ≡ (is_track_away file id fs
    || (not (is_some (first_header file id fs))
    && (has_track_id id (track_header file f.after) && is_away file f.after)))
away_more file id [] f =
    by_bool (has_track_id id (track_header file f.after)) (λ yes. rw yes refl) (λ no. rw no refl)
away_more file id (g ∷ fs) f =
    by_bool (has_track_id id (track_header file g.after))
    (λ yes. rw yes (sym (or-false (is_away file g.after))))
    (λ no. rw no (away_more file id fs f))

longest_more : (file : List ℕ) (fs : List Found) (f : Found)
    → longest_track file (fs ++ f ∷ []) ≡ longer_track (longest_track file fs) (track_header file f.after)
longest_more file fs f =
    fold-append (λ (longest : Option ℕ) (g : Found). longer_track longest (track_header file g.after)) None fs (f ∷ [])

-- One more track is stored.
pub met_more : (file : List ℕ) (fs : List Found) (f : Found) (h : TrackHeader) (away : Bool) (old new : Met)
    → track_header file f.after ≡ Some h → is_away file f.after ≡ away → IsMet file fs old
    → ((q : ℕ) → get nat_cmp new.headers q ≡ option_or (get nat_cmp old.headers q) (header_for q (Some h)))
    → ((q : ℕ) → is_some (get nat_cmp new.away q)
    ≡ (is_some (get nat_cmp old.away q)
    || (not (is_some (get nat_cmp old.headers q)) && (has_track_id q (Some h) && away))))
    → new.longest ≡ longer old.longest h.version h.duration → IsMet file (fs ++ f ∷ []) new
met_more file fs f h away old new header is met headers aways longest = record {
  headers_are = λ q.
      headers q
      ∙ ap (λ (o : Option ℕ). option_or o (header_for q (Some h))) (met.headers_are q)
      ∙ ap (λ (o : Option TrackHeader). option_or (first_header file q fs) (header_for q o)) (sym header)
      ∙ sym (header_more file q fs f);
  away_are = λ q.
      aways q
      ∙ ap (λ (b : Bool). b || (not (is_some (get nat_cmp old.headers q)) && (has_track_id q (Some h) && away)))
      (met.away_are q)
      ∙ ap (λ (o : Option ℕ). is_track_away file q fs || (not (is_some o) && (has_track_id q (Some h) && away)))
      (met.headers_are q)
      ∙ ap (λ (o : Option TrackHeader). is_track_away file q fs
      || (not (is_some (first_header file q fs)) && (has_track_id q o && away))) (sym header)
      ∙ ap (λ (b : Bool). is_track_away file q fs
      || (not (is_some (first_header file q fs)) && (has_track_id q (track_header file f.after) && b))) (sym is)
      ∙ sym (away_more file q fs f);
  longest_is =
      longest
      ∙ ap (λ (o : Option ℕ). longer o h.version h.duration) met.longest_is
      ∙ ap (λ (o : Option TrackHeader). longer_track (longest_track file fs) o) (sym header)
      ∙ sym (longest_more file fs f);
}

or_none : (o : Option ℕ) → option_or o None ≡ o
or_none None = refl
or_none (Some v) = refl

rest_false : (a b : Bool) → (a || (b && false)) ≡ a
rest_false true b = refl
rest_false false true = refl
rest_false false false = refl

-- A track without a header changes nothing.
pub met_same : (file : List ℕ) (fs : List Found) (f : Found) (met : Met) → track_header file f.after ≡ None
    → IsMet file fs met → IsMet file (fs ++ f ∷ []) met
met_same file fs f met none h = record {
  headers_are = λ q.
      h.headers_are q
      ∙ sym (header_more file q fs f
      ∙ ap (λ (o : Option TrackHeader). option_or (first_header file q fs) (header_for q o)) none
      ∙ or_none (first_header file q fs));
  away_are = λ q.
      h.away_are q
      ∙ sym (away_more file q fs f
      ∙ ap (λ (o : Option TrackHeader). is_track_away file q fs
      || (not (is_some (first_header file q fs)) && (has_track_id q o && is_away file f.after))) none
      ∙ rest_false (is_track_away file q fs) (not (is_some (first_header file q fs))));
  longest_is =
      h.longest_is
      ∙ sym (longest_more file fs f
      ∙ ap (λ (o : Option TrackHeader). longer_track (longest_track file fs) o) none);
}

and_none : (b : Bool) → (b && false) ≡ false
and_none true = refl
and_none false = refl

-- The track_IDs that are away, after the first track with a track_ID was stored.
pub away_for : (id q : ℕ) (old first away : Bool) (headers : ℕ → Option ℕ) → first ≡ not (is_some (headers id))
    → (old || ((id == q) && (first && away))) ≡ (old || (not (is_some (headers q)) && ((id == q) && away)))
away_for id q old first away headers is =
    by_bool (eqb id q)
    (λ yes. let same = eqb-true id q yes in rw (yes, is, same) refl)
    (λ no. rw no (ap (λ (b : Bool). old || b) (sym (and_none (not (is_some (headers q)))))))
