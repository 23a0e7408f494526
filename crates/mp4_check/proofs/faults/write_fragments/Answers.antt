use Rattle.std.proofs.Common.{◌≡◌, ◌∙◌, Some, ap, arith, refl}
use Rattle.mp4_check.specs.FragmentFaults.{found_at}
use Rattle.mp4_content.specs.Paths.{next}
use Rattle.mp4_check.proofs.FaultLoops.{moofs_next, moofs_none, moofs_written}
use Rattle.mp4_check.proofs.ShownFaults.{form_laws}
use Rattle.mp4_check.proofs.faults.write_fragments.Goals as goal
use Rattle.mp4_walk.specs.Walk.{Walk}

pub moofs-init : goal.moofs-init
moofs-init g c = record {
  kept = refl;
  so_far = λ f bytes same facts.
      moofs_none (g.F.FaultForm.writes c.args.form)
      (form_laws g.F.FaultForm.writes g.F.FaultForm.writes_none g.F.FaultForm.writes_more c.args.form) f c.args.told
      c.args.boxes.now c.new-going.result
      c.args.output.now same c.new-going.ensures;
}

pub moofs-preserved : goal.moofs-preserved
moofs-preserved g c =
    let l = c.moofs in
    let number : c.saturating_add-number.result ≡ next l.number = omega (arith, c.saturating_add-number.ensures) in
    record {
      kept = c.in_ok-more.ensures.kept ∙ l.invariant.kept;
      so_far = λ f bytes same facts.
          let here : l.walk.bytes ≡ Some f.bytes = ap (λ (w : Walk). w.bytes) l.invariant.kept ∙ bytes in
          let before = l.invariant.so_far f bytes same facts in
          moofs_next (g.F.FaultForm.writes c.args.form)
          (form_laws g.F.FaultForm.writes g.F.FaultForm.writes_none g.F.FaultForm.writes_more c.args.form) f c.args.told
          l.written c.in_ok-more.more l.number c.saturating_add-number.result
          l.rest.now l.going c.write_moof.new.going c.args.output.now
          l.output c.write_moof.new.output
          (found_at c.in-Some.moof) c.in-Some.ensures.first number before
          (c.in_ok-more.ensures.going f before.times here facts before.going_is)
          (c.in_ok-more.ensures.value f before.times here facts before.going_is);
    }

pub returns-clause-value : goal.returns-clause-value
returns-clause-value g c = λ f bytes same facts.
    let l = c.moofs in
    moofs_written (g.F.FaultForm.writes c.args.form) f c.args.told l.written l.number l.rest.now l.going
    c.args.output.now l.output c.in_default.ensures.first
    (l.invariant.so_far f bytes same facts)
