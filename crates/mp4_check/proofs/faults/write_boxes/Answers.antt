use Rattle.std.proofs.Common.{◌≡◌, ◌<◌, ◌∙◌, Some, [], ap, arith, fold, length, refl, take}
use Rattle.mp4_check.specs.BoxFaults.{faults_of_boxes}
use Rattle.mp4_content.specs.Paths.{entered}
use Rattle.mp4_check.proofs.FileSteps.{boxes_end, boxes_next, open_more}
use Rattle.mp4_check.proofs.Outcomes.{if_is, some_at}
use Rattle.mp4_check.proofs.ShownFaults.{first_none, form_laws}
use Rattle.mp4_check.proofs.faults.write_boxes.Goals as goal
use Rattle.mp4_walk.specs.Walk.{Walk}

pub boxes-init : goal.boxes-init
boxes-init g c = record {
  kept = refl;
  opened = c.new-paths.ensures;
  so_far = if_is c.args.walk.now.bytes (λ file known.
      first_none (g.F.FaultForm.writes c.args.form)
      (form_laws g.F.FaultForm.writes g.F.FaultForm.writes_none g.F.FaultForm.writes_more c.args.form) c.args.told
      (faults_of_boxes g.B.Shown.known g.B.Shown.named_reading file [] c.args.boxes.now)
      c.args.output.now);
}

pub boxes-preserved : goal.boxes-preserved
boxes-preserved g c =
    let boxes = c.args.boxes.now in
    let l = c.boxes in
    let lt : l.index < length boxes = omega arith in
    let opened = rw c.in_ok-or_memory.ensures.ok at
    (c.enter.ensures (fold entered [] (take l.index boxes)) l.invariant.opened) in
    record {
      kept = c.in_ok-faults.ensures.kept ∙ l.invariant.kept;
      opened = open_more boxes l.index _ c.enter.new.self.levels.items lt opened;
      so_far = if_is c.args.walk.now.bytes (λ file known.
          let here : l.walk.bytes ≡ Some file = ap (λ (w : Walk). w.bytes) l.invariant.kept ∙ known in
          boxes_next (g.F.FaultForm.writes c.args.form)
          (form_laws g.F.FaultForm.writes g.F.FaultForm.writes_none g.F.FaultForm.writes_more c.args.form)
          g.B.Shown.known g.B.Shown.named_reading file c.args.told l.written c.in_ok-more.more
          boxes l.index _ _ c.args.output.now l.output
          c.write_all_faults.new.output lt
          (some_at c.args.walk.now.bytes file _ known l.invariant.so_far)
          (some_at l.walk.bytes file _ here c.in_ok-faults.ensures.value _ opened)
          (rw c.deref.ensures.value at c.in_ok-more.ensures));
    }

pub returns-clause-value : goal.returns-clause-value
returns-clause-value g c =
    let l = c.boxes in
    if_is c.args.walk.now.bytes (λ file known.
    boxes_end (g.F.FaultForm.writes c.args.form) g.B.Shown.known g.B.Shown.named_reading file c.args.told l.written
    c.args.boxes.now l.index
    c.args.output.now l.output (omega arith)
    (some_at c.args.walk.now.bytes file _ known l.invariant.so_far))
