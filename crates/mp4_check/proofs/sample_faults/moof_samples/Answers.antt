use Rattle.std.proofs.Common.{◌≡◌, ℕ, List, ◌∙◌, Some, ap, arith, refl, subst}
use Rattle.std.specs.BTreeMap.{get}
use Rattle.std.specs.Ordering.{nat_cmp}
use Rattle.mp4_check.specs.FaultValues.{values_of}
use Rattle.mp4_check.specs.FragmentFaults.{found_at}
use Rattle.mp4_content.specs.Paths.{next}
use Rattle.mp4_check.specs.SampleFaults.{TrafLooked, kinds_at}
use Rattle.mp4_check.specs.declared.samples.kind.Kind.{Kind}
use Rattle.mp4_check.proofs.Outcomes.{if_is, some_at}
use Rattle.mp4_check.proofs.SampleLoops.{all_trafs, no_trafs, one_traf, same_kinds}
use Rattle.mp4_check.proofs.sample_faults.moof_samples.Goals as goal
use Rattle.mp4_walk.specs.Walk.{Walk}

pub trafs-init : goal.trafs-init
trafs-init g c = record {
  same = refl;
  kinds = refl;
  so_far = if_is c.args.walk.now.bytes (λ file known.
      no_trafs file (λ (q : ℕ). get nat_cmp c.args.defaults.now q) (kinds_at c.args.kept.now) c.args.number
      (found_at c.args.moof) c.args.kept.now.left (values_of c.args.faults.now.items));
}

pub trafs-preserved : goal.trafs-preserved
trafs-preserved g c =
    let l = c.trafs in
    let index : c.saturating_add-index.result ≡ next l.index = omega (arith, c.saturating_add-index.ensures) in
    record {
      same = c.in_ok-next.ensures.kept ∙ l.invariant.same;
      kinds = c.in_ok-next.ensures.kinds ∙ l.invariant.kinds;
      so_far = if_is c.args.walk.now.bytes (λ file known.
          let here : l.walk.bytes ≡ Some file = ap (λ (w : Walk). w.bytes) l.invariant.same ∙ known in
          let defaults = λ (q : ℕ). get nat_cmp c.args.defaults.now q in
          one_traf file defaults (kinds_at c.args.kept.now) c.args.number (found_at c.args.moof) l.rest.now l.index
          c.saturating_add-index.result l.end c.in_ok-next.next c.args.kept.now.left l.kept.left
          c.traf_samples.new.kept.left (values_of c.args.faults.now.items) (values_of l.faults.items)
          (values_of c.traf_samples.new.faults.items) (found_at c.in-Some.traf) c.in-Some.ensures.first index
          (subst (λ (ks : ℕ → List Kind). TrafLooked file defaults ks c.args.number l.index
          c.args.moof.found.position l.end (found_at c.in-Some.traf) l.kept.left (values_of l.faults.items)
          (values_of c.traf_samples.new.faults.items) c.in_ok-next.next c.traf_samples.new.kept.left)
          (same_kinds l.kept c.args.kept.now l.invariant.kinds)
          (some_at l.walk.bytes file _ here c.in_ok-next.ensures.value))
          (some_at c.args.walk.now.bytes file _ known l.invariant.so_far));
    }

pub returns-clause-value : goal.returns-clause-value
returns-clause-value g c =
    let l = c.trafs in
    if_is c.args.walk.now.bytes (λ file known.
    all_trafs file (λ (q : ℕ). get nat_cmp c.args.defaults.now q) (kinds_at c.args.kept.now) c.args.number
    (found_at c.args.moof) l.rest.now l.index l.end c.args.kept.now.left l.kept.left
    (values_of c.args.faults.now.items) (values_of l.faults.items) c.in_default.ensures.first
    (some_at c.args.walk.now.bytes file _ known l.invariant.so_far))
