use Rattle.std.proofs.Common.{◌≡◌, ℕ, ◌+◌, ◌<◌, Some, true, length, ap, arith, subst, sym, ◌∙◌}
use Rattle.mp4_check.proofs.LookedSamples.{looks_next}
use Rattle.mp4_check.proofs.Outcomes.{if_is, some_at}
use Rattle.mp4_check.proofs.samples.sample_walk.look_at_tables.Goals as goal
use Rattle.mp4_check.specs.Looked.{is_seen, nothing}
use Rattle.mp4_samples.specs.Samples.{IsSample, sample_count}
use Rattle.mp4_samples.specs.declared.tables.Tables.{Tables}
use Rattle.mp4_walk.specs.Walk.{Walk}

pub loop-preserved : goal.loop-preserved
loop-preserved g c =
    let l = c.loop in
    let x = c.in-Some.sample in
    let gives = c.in-Some.ensures.steps in
    let same = l.invariant.tables in
    let below : l.samples.number < sample_count c.args.tables.now =
    subst (λ (t : Tables). l.samples.number < sample_count t) same gives.0 in
    let is = subst (λ (t : Tables). IsSample t l.samples.number x) same gives.1 in
    let next : c.next.new.self.number ≡ l.samples.number + 1 = gives.3 in
    record {
      kept = c.in_ok-looked-in-Some.ensures.kept ∙ l.invariant.kept;
      tables = gives.2 ∙ same;
      within = omega (arith, below, next);
      looks = if_is c.args.walk.now.bytes (λ file known.
          let here : l.walk.bytes ≡ Some file = ap (λ (w : Walk). w.bytes) l.invariant.kept ∙ known in
          let long : c.length.result ≡ length file = some_at l.walk.bytes file _ here c.length.ensures.known in
          let seen : is_seen (length file) l.looked x ≡ true = ap (λ (n : ℕ). is_seen n l.looked x) (sym long)
          ∙ sym c.is_seen.ensures ∙ c.if-not-is_seen.false in
          looks_next (IsSample c.args.tables.now) file c.args.kinds.now (nothing c.args.left) l.samples.number
          c.next.new.self.number l.looked c.in_ok-looked-in-Some.looked x
          (some_at c.args.walk.now.bytes file _ known l.invariant.looks) is seen
          (some_at l.walk.bytes file _ here c.in_ok-looked-in-Some.ensures.value) next);
    }
