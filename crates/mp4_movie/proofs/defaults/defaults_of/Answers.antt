use Rattle.std.proofs.Common.{◌∙◌, ℕ, ap, refl}
use Rattle.std.specs.BTreeMap.{get}
use Rattle.std.specs.Ordering.{nat_cmp}
use Rattle.mp4_walk.specs.Walk.{Walk}
use Rattle.mp4_movie.specs.Defaults.{trexes}
use Rattle.mp4_movie.specs.Levels.{Found}
use Rattle.mp4_lemmas.proofs.Outcomes.{both_known}
use Rattle.mp4_movie.proofs.Trexes.{at_end, faults_on, trex_on}
use Rattle.mp4_movie.proofs.defaults.defaults_of.Goals as goal

pub loop-place-preserved : goal.loop-place-preserved
loop-place-preserved g c =
    let all = trexes c.args.boxes.now in
    let rest = c.loop-place.rest.now in
    let f : Found = record { box = c.in-Some.place.found; after = c.in-Some.place.after.now } in
    let same = ap (λ (w : Walk). w.bytes) c.loop-place.invariant.kept in
    record {
      kept = c.value_at.ensures.kept ∙ c.loop-place.invariant.kept;
      by_track = both_known _ _ same c.loop-place.invariant.by_track c.in_ok-trex.ensures.value
          (λ file h read. trex_on file all rest f (λ (q : ℕ). get nat_cmp c.loop-place.defaults.by_track q)
          (λ (q : ℕ). get nat_cmp c.keep.new.defaults.by_track q) c.in_ok-trex.trex c.in-Some.ensures.first
          c.in_ok-keep.ensures.by_track read h);
      faults = both_known _ _ same c.loop-place.invariant.faults c.in_ok-trex.ensures.value
          (λ file h read. faults_on file all rest f c.loop-place.defaults.faults.items _ c.in_ok-trex.trex
          c.in-Some.ensures.first c.in_ok-keep.ensures.faults read h);
    }

pub returns-clause-value : goal.returns-clause-value
returns-clause-value g c =
    both_known _ _ refl c.loop-place.invariant.faults c.loop-place.invariant.by_track
    (λ file known h. at_end file (trexes c.args.boxes.now) c.loop-place.rest.now c.loop-place.defaults
    c.in_default.ensures.first h known)
