use Rattle.std.proofs.Common.{◌≡◌, ◌∙◌, Some, ap, arith, refl}
use Rattle.mp4_check.specs.FragmentFaults.{found_at}
use Rattle.mp4_content.specs.Paths.{next}
use Rattle.mp4_check.proofs.FaultLoops.{trafs_next, trafs_none, trafs_stored, trafs_written}
use Rattle.mp4_check.proofs.ShownFaults.{form_laws}
use Rattle.mp4_check.proofs.faults.write_moof.Goals as goal
use Rattle.mp4_walk.specs.Walk.{Walk}

pub trafs-init : goal.trafs-init
trafs-init g c = record {
  kept = refl;
  so_far = λ f times bytes facts going.
      trafs_none (g.F.FaultForm.writes c.args.form)
      (form_laws g.F.FaultForm.writes g.F.FaultForm.writes_none g.F.FaultForm.writes_more c.args.form) f c.args.told
      (found_at c.args.moof) c.args.number times c.args.going.now _
      c.args.output.now refl (λ id. refl) going;
}

pub trafs-preserved : goal.trafs-preserved
trafs-preserved g c =
    let l = c.trafs in
    let number : c.saturating_add-index.result ≡ next l.index = omega (arith, c.saturating_add-index.ensures) in
    record {
      kept = c.in_ok-faults.ensures.kept ∙ l.invariant.kept;
      so_far = λ f times bytes facts going.
          let here : l.walk.bytes ≡ Some f.bytes = ap (λ (w : Walk). w.bytes) l.invariant.kept ∙ bytes in
          let before = l.invariant.so_far f times bytes facts going in
          trafs_next (g.F.FaultForm.writes c.args.form)
          (form_laws g.F.FaultForm.writes g.F.FaultForm.writes_none g.F.FaultForm.writes_more c.args.form) f c.args.told
          l.written c.in_ok-more.more (found_at c.args.moof) c.args.number times
          l.rest.now l.index c.saturating_add-index.result l.going c.traf_faults.new.going
          c.args.output.now l.output
          c.write_all_faults.new.output (found_at c.in-Some.traf) _ c.in-Some.ensures.first
          number before
          (c.in_ok-faults.ensures.value f before.so_far here facts before.going_is)
          (c.in_ok-faults.ensures.going f before.so_far here facts before.going_is)
          (rw c.deref.ensures.value at c.in_ok-more.ensures);
    }

pub returns-clause-value : goal.returns-clause-value
returns-clause-value g c = λ f times bytes facts going.
    let l = c.trafs in
    trafs_written (g.F.FaultForm.writes c.args.form) f c.args.told l.written (found_at c.args.moof) c.args.number times
    l.rest.now l.index
    l.going c.args.output.now l.output
    c.in_default.ensures.first (l.invariant.so_far f times bytes facts going)

pub returns-clause-going : goal.returns-clause-going
returns-clause-going g c = λ f times bytes facts going.
    let l = c.trafs in
    trafs_stored (g.F.FaultForm.writes c.args.form) f c.args.told l.written (found_at c.args.moof) c.args.number times
    l.rest.now l.index
    l.going c.args.output.now l.output
    c.in_default.ensures.first (l.invariant.so_far f times bytes facts going)
