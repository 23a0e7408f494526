use Rattle.std.proofs.Common.{◌≡◌, ℕ, List, ◌∙◌, Some, ap, arith, refl, subst}
use Rattle.std.specs.BTreeMap.{get}
use Rattle.std.specs.Ordering.{nat_cmp}
use Rattle.mp4_check.specs.FaultValues.{values_of}
use Rattle.mp4_check.specs.FragmentFaults.{found_at, trafs_of}
use Rattle.mp4_content.specs.Paths.{next}
use Rattle.mp4_check.specs.SampleFaults.{AreTrafsLooked, kinds_at}
use Rattle.mp4_check.specs.declared.samples.kind.Kind.{Kind}
use Rattle.mp4_check.proofs.Outcomes.{if_is, some_at}
use Rattle.mp4_check.proofs.SampleLoops.{all_moofs, no_moofs, one_moof, same_kinds}
use Rattle.mp4_check.proofs.sample_faults.fragments_samples.Goals as goal
use Rattle.mp4_walk.specs.Walk.{Walk}

pub moofs-init : goal.moofs-init
moofs-init g c = record {
  same = refl;
  kinds = refl;
  so_far = if_is c.args.walk.now.bytes (λ file known.
      no_moofs file (λ (q : ℕ). get nat_cmp c.args.defaults.now q) (kinds_at c.args.kept.now) c.args.boxes.now
      c.args.kept.now.left (values_of c.args.faults.now.items));
}

pub moofs-preserved : goal.moofs-preserved
moofs-preserved g c =
    let l = c.moofs in
    let number : c.saturating_add-number.result ≡ next l.number = omega (arith, c.saturating_add-number.ensures) in
    record {
      same = c.in_ok-moof_samples.ensures.kept ∙ l.invariant.same;
      kinds = c.in_ok-moof_samples.ensures.kinds ∙ l.invariant.kinds;
      so_far = if_is c.args.walk.now.bytes (λ file known.
          let here : l.walk.bytes ≡ Some file = ap (λ (w : Walk). w.bytes) l.invariant.same ∙ known in
          let defaults = λ (q : ℕ). get nat_cmp c.args.defaults.now q in
          let x = found_at c.in-Some.moof in
          one_moof file defaults (kinds_at c.args.kept.now) c.args.boxes.now l.rest.now l.number
          c.saturating_add-number.result c.args.kept.now.left l.kept.left c.moof_samples.new.kept.left
          (values_of c.args.faults.now.items) (values_of l.faults.items)
          (values_of c.moof_samples.new.faults.items) x c.in-Some.ensures.first number
          (subst (λ (ks : ℕ → List Kind). AreTrafsLooked file defaults ks l.number 0 x.box.position
          (Some x.box.position) (trafs_of x) l.kept.left (values_of l.faults.items)
          (values_of c.moof_samples.new.faults.items) c.moof_samples.new.kept.left)
          (same_kinds l.kept c.args.kept.now l.invariant.kinds)
          (some_at l.walk.bytes file _ here c.in_ok-moof_samples.ensures.value))
          (some_at c.args.walk.now.bytes file _ known l.invariant.so_far));
    }

pub returns-clause-value : goal.returns-clause-value
returns-clause-value g c =
    let l = c.moofs in
    if_is c.args.walk.now.bytes (λ file known.
    all_moofs file (λ (q : ℕ). get nat_cmp c.args.defaults.now q) (kinds_at c.args.kept.now) c.args.boxes.now
    l.rest.now l.number c.args.kept.now.left l.kept.left (values_of c.args.faults.now.items)
    (values_of l.faults.items) c.in_default.ensures.first
    (some_at c.args.walk.now.bytes file _ known l.invariant.so_far))
