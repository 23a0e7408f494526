use Rattle.std.proofs.Common.{◌≡◌, ◌∙◌, Some, ap, arith, refl}
use Rattle.mp4_content.specs.Paths.{next}
use Rattle.mp4_check.specs.TrackFaults.{value_of_facts}
use Rattle.mp4_check.proofs.FaultLoops.{tracks_next, tracks_none, tracks_stored, tracks_written}
use Rattle.mp4_check.proofs.Outcomes.{if_is, some_at}
use Rattle.mp4_check.proofs.ShownFaults.{form_laws}
use Rattle.mp4_check.proofs.faults.write_tracks.Goals as goal
use Rattle.mp4_movie.specs.Levels.{Found}
use Rattle.mp4_walk.specs.Walk.{Walk}

pub tracks-init : goal.tracks-init
tracks-init g c = record {
  kept = refl;
  so_far = if_is c.args.walk.now.bytes (λ file known. λ none.
      tracks_none (g.F.FaultForm.writes c.args.form)
      (form_laws g.F.FaultForm.writes g.F.FaultForm.writes_none g.F.FaultForm.writes_more c.args.form) file
      (value_of_facts c.args.facts.now) c.args.told c.args.movie.now c.args.met.now
      c.args.output.now none);
}

pub tracks-preserved : goal.tracks-preserved
tracks-preserved g c =
    let l = c.tracks in
    let f : Found = record { box = c.in-Some.place.found; after = c.in-Some.place.after.now } in
    let number : c.saturating_add-number.result ≡ next l.number = omega (arith, c.saturating_add-number.ensures) in
    record {
      kept = c.in_ok-faults.ensures.kept ∙ l.invariant.kept;
      so_far = if_is c.args.walk.now.bytes (λ file known. λ none.
          let here : l.walk.bytes ≡ Some file = ap (λ (w : Walk). w.bytes) l.invariant.kept ∙ known in
          let before = some_at c.args.walk.now.bytes file _ known l.invariant.so_far none in
          tracks_next (g.F.FaultForm.writes c.args.form)
          (form_laws g.F.FaultForm.writes g.F.FaultForm.writes_none g.F.FaultForm.writes_more c.args.form) file
          (value_of_facts c.args.facts.now) c.args.told l.written c.in_ok-more.more
          c.args.movie.now l.rest.now l.number c.saturating_add-number.result l.met c.track_faults.new.met
          c.args.output.now l.output
          c.write_all_faults.new.output f _ c.in-Some.ensures.first number before
          (some_at l.walk.bytes file _ here c.in_ok-faults.ensures.value before.earlier before.stored)
          (some_at l.walk.bytes file _ here c.in_ok-faults.ensures.met before.earlier f refl before.stored)
          (rw c.deref.ensures.value at c.in_ok-more.ensures));
    }

pub returns-clause-value : goal.returns-clause-value
returns-clause-value g c =
    let l = c.tracks in
    if_is c.args.walk.now.bytes (λ file known. λ none.
    tracks_written (g.F.FaultForm.writes c.args.form) file (value_of_facts c.args.facts.now) c.args.told l.written
    c.args.movie.now l.rest.now
    l.number l.met c.args.output.now l.output
    c.in_default.ensures.first (some_at c.args.walk.now.bytes file _ known l.invariant.so_far none))

pub returns-clause-met : goal.returns-clause-met
returns-clause-met g c =
    let l = c.tracks in
    if_is c.args.walk.now.bytes (λ file known. λ none.
    tracks_stored (g.F.FaultForm.writes c.args.form) file (value_of_facts c.args.facts.now) c.args.told l.written
    c.args.movie.now l.rest.now
    l.number l.met c.args.output.now l.output
    c.in_default.ensures.first (some_at c.args.walk.now.bytes file _ known l.invariant.so_far none))
