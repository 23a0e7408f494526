use Rattle.std.proofs.Common.{◌≡◌, ℕ, ◌+◌, Some, true, false, length, ap, arith, inr, refl, rules, subst, sym, ◌∙◌}
use Rattle.mp4_check.proofs.LookedSamples.{looks_all, looks_next, looks_none, looks_stop}
use Rattle.mp4_check.proofs.Outcomes.{if_is, some_at}
use Rattle.mp4_check.proofs.samples.sample_walk.look_at_runs.Goals as goal
use Rattle.mp4_check.specs.Looked.{AreOfFragment, LooksTo, is_seen, nothing}
use Rattle.mp4_samples.proofs.Fragments.{no_runs_samples}
use Rattle.mp4_samples.specs.FragmentGives.{begins, number_of}
use Rattle.mp4_samples.specs.Fragments.{Faults, IsFragmentSample}
use Rattle.mp4_samples.specs.declared.fragment.Fragment.{Fragment}
use Rattle.mp4_walk.specs.Walk.{Walk}

pub loop-init : goal.loop-init
loop-init g c =
    let f = c.args.fragment.now in
    let none = no_runs_samples f in
    let zero : number_of (begins f) ≡ 0 = omega (arith, none) in
    let before = nothing c.args.left in
    record {
      kept = refl;
      fragment = search rules;
      on = search rules;
      looks = if_is c.args.walk.now.bytes (λ file known.
          rw (c.samples-samples.ensures, c.nothing-looked.ensures)
          (subst (λ (j : ℕ). LooksTo (IsFragmentSample f) file c.args.kinds.now before j before) (sym zero)
          (looks_none (IsFragmentSample f) file c.args.kinds.now before)));
    }

pub returns-then-not-is_seen-clause-value : goal.returns-then-not-is_seen-clause-value
returns-then-not-is_seen-clause-value g c =
    let f = c.args.fragment.now in
    let l = c.loop in
    let x = c.in-Some-Ok.sample in
    let gives = rw c.in-Some-Ok.field-0-is at c.in-Some-Ok.ensures.steps in
    let is = subst (λ (f : Fragment). IsFragmentSample f (number_of l.samples) x) l.invariant.fragment gives.1 in
    if_is c.args.walk.now.bytes (λ file known.
    let here : l.walk.bytes ≡ Some file = ap (λ (w : Walk). w.bytes) l.invariant.kept ∙ known in
    let long : c.length.result ≡ length file = some_at l.walk.bytes file _ here c.length.ensures.known in
    let unseen : is_seen (length file) l.looked x ≡ false = ap (λ (n : ℕ). is_seen n l.looked x) (sym long)
    ∙ sym c.is_seen.ensures ∙ c.if-not-is_seen.true in
    looks_stop (IsFragmentSample f) file c.args.kinds.now (nothing c.args.left) (AreOfFragment f)
    (number_of l.samples) l.looked x (some_at c.args.walk.now.bytes file _ known l.invariant.looks) is unseen)

pub returns-in-Some-Err-clause-value : goal.returns-in-Some-Err-clause-value
returns-in-Some-Err-clause-value g c =
    let f = c.args.fragment.now in
    let l = c.loop in
    let e = c.in-Some-Err.field-0-0 in
    let gives = rw c.in-Some-Err.field-0-is at c.in-Some-Err.ensures.steps in
    if_is c.args.walk.now.bytes (λ file known.
    looks_all (IsFragmentSample f) file c.args.kinds.now (nothing c.args.left) (AreOfFragment f)
    (number_of l.samples) l.looked (some_at c.args.walk.now.bytes file _ known l.invariant.looks)
    (inr (e, subst (λ (f : Fragment). Faults f (number_of l.samples) e) l.invariant.fragment gives.1)))

pub loop-preserved : goal.loop-preserved
loop-preserved g c =
    let f = c.args.fragment.now in
    let l = c.loop in
    let x = c.in-Some-Ok.sample in
    let gives = rw c.in-Some-Ok.field-0-is at c.in-Some-Ok.ensures.steps in
    let is = subst (λ (f : Fragment). IsFragmentSample f (number_of l.samples) x) l.invariant.fragment gives.1 in
    let next : number_of c.next.new.self ≡ number_of l.samples + 1 = gives.3 in
    record {
      kept = c.in_ok-looked-in-Some-Ok.ensures.kept ∙ l.invariant.kept;
      fragment = gives.2 ∙ l.invariant.fragment;
      on = gives.4;
      looks = if_is c.args.walk.now.bytes (λ file known.
          let here : l.walk.bytes ≡ Some file = ap (λ (w : Walk). w.bytes) l.invariant.kept ∙ known in
          let long : c.length.result ≡ length file = some_at l.walk.bytes file _ here c.length.ensures.known in
          let seen : is_seen (length file) l.looked x ≡ true = ap (λ (n : ℕ). is_seen n l.looked x) (sym long)
          ∙ sym c.is_seen.ensures ∙ c.if-not-is_seen.false in
          looks_next (IsFragmentSample f) file c.args.kinds.now (nothing c.args.left) (number_of l.samples)
          (number_of c.next.new.self) l.looked c.in_ok-looked-in-Some-Ok.looked x
          (some_at c.args.walk.now.bytes file _ known l.invariant.looks) is seen
          (some_at l.walk.bytes file _ here c.in_ok-looked-in-Some-Ok.ensures.value) next);
    }
