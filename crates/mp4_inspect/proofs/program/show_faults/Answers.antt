use Rattle.std.proofs.Common.{◌≡◌, ◌∙◌, List, Some, ap, subst}
use Rattle.mp4_check.specs.SampleFaults.{WritesSamples}
use Rattle.mp4_check.proofs.Outcomes.{if_is, if_ok, some_at}
use Rattle.mp4_inspect.proofs.program.show_faults.Goals as goal
use Rattle.mp4_walk.specs.Walk.{Walk}
use Rattle.mp4_walk.specs.declared.tree_box.TreeBox.{TreeBox}

pub returns-then-media : goal.returns-then-media
returns-then-media g c = record {
  faults =
      if_is (g.S.Source.all c.args.source)
      (λ file all.
      let opened : c.in_ok-walk.walk.bytes ≡ Some file = (rw c.in_ok-walk.ensures.ok at c.new.ensures.bytes) ∙ all in
      let left = some_at c.in_ok-walk.walk.bytes file _ opened (rw c.in_ok-walk.ensures.ok at c.new.ensures.boxes) in
      let listed = some_at c.in_ok-walk.walk.bytes file _ opened (rw c.in_ok-boxes.ensures.ok at c.rest.ensures.boxes)
      in
      let written = some_at c.rest.new.self.bytes file _ (c.rest.ensures.bytes ∙ opened) c.in_ok-told.ensures.check
      (c.deref.ensures.value ∙ (listed ∙ left)) in
      let again : c.write_faults.new.walk.bytes ≡ Some file =
      ap (λ (w : Walk). w.bytes) c.in_ok-told.ensures.kept ∙ (c.rest.ensures.bytes ∙ opened) in
      let mid = g.W.Write.contents c.write_faults.new.output.inner in
      let end = g.W.Write.contents c.write_sample_faults.new.output.inner in
      rw c.if-media.true
      (if_ok c.write_sample_faults.result
      (some_at c.write_faults.new.walk.bytes file _ again c.write_sample_faults.ensures.value)
      (λ now more. record {
        between = c.in_ok-told.told;
        mid = mid;
        faults = written;
        samples = subst (λ (boxes : List TreeBox).
            WritesSamples c.args.form c.in_ok-told.told file boxes mid end now)
            (c.deref-then-media.ensures.value ∙ (listed ∙ left)) more;
      })));
}

pub returns : goal.returns
returns g c = record {
  faults =
      if_is (g.S.Source.all c.args.source)
      (λ file all.
      let opened : c.in_ok-walk.walk.bytes ≡ Some file = (rw c.in_ok-walk.ensures.ok at c.new.ensures.bytes) ∙ all in
      let left = some_at c.in_ok-walk.walk.bytes file _ opened (rw c.in_ok-walk.ensures.ok at c.new.ensures.boxes) in
      let listed = some_at c.in_ok-walk.walk.bytes file _ opened (rw c.in_ok-boxes.ensures.ok at c.rest.ensures.boxes)
      in
      rw c.if-media.false
      (some_at c.rest.new.self.bytes file _ (c.rest.ensures.bytes ∙ opened) c.in_ok-told.ensures.check
      (c.deref.ensures.value ∙ (listed ∙ left))));
}
