use Rattle.std.proofs.Common.{◌≡◌, ◌+◌, sym, ap, ◌∙◌, arith, rules}
use Rattle.std.proofs.lemmas.Result.{err_from_is_err_and}
use Rattle.mp4_frame.specs.Children.{last}
use Rattle.mp4_frame.specs.Reading.{End}
use Rattle.mp4_sound.specs.Counted.{outcome_after, value}
use Rattle.mp4_sound.specs.Walk.{walk}
use Rattle.mp4_sound.proofs.Walks.{continued, faults_as, fault_headers, or_is, header_faults, content_faults, next}
use Rattle.mp4_sound.proofs.Walks.{next_outcome}
use Rattle.mp4_sound.specs.WalkLaws.{walk_none, walk_zero}
use Rattle.mp4_sound.proofs.walk.walk.Goals.{then-loop-left-test+else-at-bound, else-loop-left-test}
use Rattle.mp4_sound.proofs.walk.walk.Goals as goal

pub returns-in_err-header-clause-value : goal.returns-in_err-header-clause-value
returns-in_err-header-clause-value g c =
    let p = err_from_is_err_and c.from_residual.result c.from_residual.ensures.1 in
    let f = c.in_err-header.ensures.fault in
    let w = header_faults g.T.WalkedFor.content c.args.bytes.now c.args.bound c.loop-left.left c.loop-left.at End
    c.loop-left-test.true c.if-at-bound.true f.1 in
    rw (p.1, p.2, f.0) (sym c.loop-left.invariant.told ∙ ap (λ (r : _). (continued c.loop-left.found r).outcome) w)

pub returns-in_err-header-clause-headers : goal.returns-in_err-header-clause-headers
returns-in_err-header-clause-headers g c =
    let w = header_faults g.T.WalkedFor.content c.args.bytes.now c.args.bound c.loop-left.left c.loop-left.at End
    c.loop-left-test.true c.if-at-bound.true c.in_err-header.ensures.fault.1 in
    let none : (walk g.T.WalkedFor.content c.args.bytes.now c.args.bound c.loop-left.left c.loop-left.at).headers ≡ 0 =
    ap (λ (r : _). r.headers) w in
    omega (arith, c.loop-left.invariant.headers, none)

pub returns-in_err-mine-clause-value : goal.returns-in_err-mine-clause-value
returns-in_err-mine-clause-value g c =
    let p = err_from_is_err_and c.from_residual-in_err-mine.result c.from_residual-in_err-mine.ensures.1 in
    let content = g.T.WalkedFor.content in
    rw (p.1, p.2)
    (faults_as c.in_err-mine.field-0.0 (content c.args.bytes.now c.args.bound c.in_ok-header.header)
    (walk content c.args.bytes.now c.args.bound c.args.most c.args.from) c.in_err-mine.ensures.value
    (λ k f. sym c.loop-left.invariant.told
    ∙ ap (λ (o : _). outcome_after o (λ later. value (last c.loop-left.found later.0, later.1)))
    (content_faults content c.args.bytes.now c.args.bound c.loop-left.left c.loop-left.at c.in_ok-header.header k
    c.loop-left-test.true c.if-at-bound.true c.in_ok-header.ensures.value f).0))

pub returns-in_err-mine-clause-headers : goal.returns-in_err-mine-clause-headers
returns-in_err-mine-clause-headers g c =
    let content = g.T.WalkedFor.content in
    let here = content c.args.bytes.now c.args.bound c.in_ok-header.header in
    let n : 1 + (here.headers + 0)
    ≡ (walk content c.args.bytes.now c.args.bound c.loop-left.left c.loop-left.at).headers =
    fault_headers c.in_err-mine.field-0.0 here c.in_err-mine.ensures.value
    (λ k f. sym (content_faults content c.args.bytes.now c.args.bound c.loop-left.left c.loop-left.at
    c.in_ok-header.header k c.loop-left-test.true c.if-at-bound.true c.in_ok-header.ensures.value f).1) in
    omega (arith, c.loop-left.invariant.headers, n, c.in_err-mine.ensures.headers)

pub loop-left-preserved : goal.loop-left-preserved
loop-left-preserved g c =
    let content = g.T.WalkedFor.content in
    let n = next content c.args.bytes.now c.args.bound c.loop-left.left c.loop-left.at c.in_ok-header.header
    (c.in_ok-mine.mine, c.in_ok-mine.end) c.loop-left-test.true c.if-at-bound.true c.in_ok-header.ensures.value
    c.in_ok-mine.ensures.value in
    let t = next_outcome content c.args.bytes.now c.args.bound c.loop-left.found c.loop-left.left c.loop-left.at
    c.in_ok-header.header (c.in_ok-mine.mine, c.in_ok-mine.end) c.loop-left-test.true c.if-at-bound.true
    c.in_ok-header.ensures.value c.in_ok-mine.ensures.value in
    let kept : c.or-found.result ≡ last c.loop-left.found c.in_ok-mine.mine =
    c.or-found.ensures ∙ or_is c.in_ok-mine.mine c.loop-left.found in
    record {
      told = rw kept (t ∙ c.loop-left.invariant.told);
      headers = omega (arith, c.loop-left.invariant.headers, n, c.in_ok-mine.ensures.headers);
      begun = omega (arith, c.loop-left.invariant.begun, c.in_ok-mine.ensures.few.0, c.in_ok-header.ensures.whole.0);
      few = search rules;
    }

pub returns-clause-value : goal.returns-clause-value
returns-clause-value g c =
    let content = g.T.WalkedFor.content in
    let finish = λ (r : _). (continued c.loop-left.found r).outcome in
    sym c.loop-left.invariant.told
    ∙ elim c.loop-left-test.branch [
      | then-loop-left-test+else-at-bound w
          ↦ ap finish (walk_none content c.args.bytes.now c.args.bound c.loop-left.left c.loop-left.at
          w.if-at-bound.false)
      | else-loop-left-test w
          ↦ ap finish (walk_zero content c.args.bytes.now c.args.bound c.loop-left.left c.loop-left.at
          w.loop-left-test.false)
    ]

pub returns-clause-headers : goal.returns-clause-headers
returns-clause-headers g c =
    let content = g.T.WalkedFor.content in
    let none : (walk content c.args.bytes.now c.args.bound c.loop-left.left c.loop-left.at).headers ≡ 0 =
    elim c.loop-left-test.branch [
      | then-loop-left-test+else-at-bound w
          ↦ ap (λ (r : _). r.headers)
          (walk_none content c.args.bytes.now c.args.bound c.loop-left.left c.loop-left.at w.if-at-bound.false)
      | else-loop-left-test w
          ↦ ap (λ (r : _). r.headers)
          (walk_zero content c.args.bytes.now c.args.bound c.loop-left.left c.loop-left.at w.loop-left-test.false)
    ] in
    omega (arith, c.loop-left.invariant.headers, none)
