use Rattle.std.proofs.Common.{◌≡◌, ◌∙◌, Some, ap, arith, length, refl, subst, ℕ}
use Rattle.mp4_check.specs.Indexes.{AreStarts, faults_of_indexes}
use Rattle.mp4_content.specs.Paths.{next}
use Rattle.mp4_check.specs.contracts.indexes.OwnReadingIndexReading.TheImpl as own
use Rattle.mp4_check.proofs.FaultLoops.{indexes_next, indexes_written}
use Rattle.mp4_check.proofs.Outcomes.{if_is, some_at}
use Rattle.mp4_check.proofs.ShownFaults.{first_none, form_laws}
use Rattle.mp4_check.proofs.faults.write_each_index.Goals as goal
use Rattle.mp4_frame.specs.FourCC.{four_cc_of}
use Rattle.mp4_frame.specs.declared.codes.TheConstants as names
use Rattle.mp4_movie.specs.Levels.{Found, all_in}
use Rattle.mp4_walk.specs.Walk.{Walk}

pub indexes-init : goal.indexes-init
indexes-init g c = record {
  kept = refl;
  so_far = if_is c.args.walk.now.bytes (λ file known.
      first_none (g.F.FaultForm.writes c.args.form)
      (form_laws g.F.FaultForm.writes g.F.FaultForm.writes_none g.F.FaultForm.writes_more c.args.form) c.args.told
      (faults_of_indexes (own.ghosts).reads file c.args.boxes.now (length file) 0
      (all_in 0 (four_cc_of names.SIDX) c.args.boxes.now))
      c.args.output.now);
}

pub indexes-preserved : goal.indexes-preserved
indexes-preserved g c =
    let l = c.indexes in
    let boxes = c.args.boxes.now in
    let f : Found = record { box = c.in-Some.place.found; after = c.in-Some.place.after.now } in
    let number : c.saturating_add-number.result ≡ next l.number = omega (arith, c.saturating_add-number.ensures) in
    let starts : AreStarts boxes c.file_length-size.result c.in_ok-starts.starts =
    rw c.in_ok-starts.ensures.ok at c.starts_of.ensures in
    record {
      kept = c.in_ok-faults.ensures.kept ∙ l.invariant.kept;
      so_far = if_is c.args.walk.now.bytes (λ file known.
          let here : l.walk.bytes ≡ Some file = ap (λ (w : Walk). w.bytes) l.invariant.kept ∙ known in
          let size : c.file_length-size.result ≡ length file =
          some_at c.args.walk.now.bytes file _ known c.file_length-size.ensures in
          let are = subst (λ (n : ℕ). AreStarts boxes n c.in_ok-starts.starts) size starts in
          indexes_next (g.F.FaultForm.writes c.args.form)
          (form_laws g.F.FaultForm.writes g.F.FaultForm.writes_none g.F.FaultForm.writes_more c.args.form)
          (own.ghosts).reads file c.args.told l.written c.in_ok-more.more boxes (length file)
          (faults_of_indexes (own.ghosts).reads file boxes (length file) 0 (all_in 0 (four_cc_of names.SIDX) boxes))
          l.rest.now l.number c.saturating_add-number.result f _
          c.args.output.now l.output
          c.write_all_faults.new.output c.in-Some.ensures.first number
          (some_at c.args.walk.now.bytes file _ known l.invariant.so_far)
          (some_at l.walk.bytes file _ here c.in_ok-faults.ensures.value boxes (length file) are)
          (rw c.deref.ensures.value at c.in_ok-more.ensures));
    }

pub returns-clause-value : goal.returns-clause-value
returns-clause-value g c =
    let l = c.indexes in
    let boxes = c.args.boxes.now in
    if_is c.args.walk.now.bytes (λ file known.
    indexes_written (g.F.FaultForm.writes c.args.form) (own.ghosts).reads file c.args.told l.written boxes (length file)
    (faults_of_indexes (own.ghosts).reads file boxes (length file) 0 (all_in 0 (four_cc_of names.SIDX) boxes))
    l.rest.now l.number c.args.output.now l.output
    c.in_default.ensures.first (some_at c.args.walk.now.bytes file _ known l.invariant.so_far))
