use Rattle.std.proofs.Common.{◌≡◌, ℕ, ◌+◌, true, length, ap, refl, subst, sym, ◌∙◌, arith, rules}
use Rattle.mp4_inspect_samples.proofs.RowLists.{writes_none, writes_next, begins_next, begins_all, on_err}
use Rattle.mp4_inspect_samples.proofs.rows.write_fragment_rows.Goals as goal
use Rattle.mp4_inspect_samples.specs.Listed.{is_listed}
use Rattle.mp4_inspect_samples.specs.Row.{labels_of}
use Rattle.mp4_inspect_samples.specs.Rows.{WritesRows}
use Rattle.mp4_samples.proofs.Fragments.{no_runs_samples}
use Rattle.mp4_samples.specs.FragmentGives.{begins, number_of, sample_total}
use Rattle.mp4_samples.specs.Fragments.{IsFragmentSample, Faults, sample_time}
use Rattle.mp4_samples.specs.declared.fragment.Fragment.{Fragment}

pub loop-init : goal.loop-init
loop-init g c =
    let f = c.args.fragment.now in
    let none = no_runs_samples f in
    let zero : number_of (begins f) ≡ 0 = omega (arith, none) in
    record {
      fragment = search rules;
      on = search rules;
      form = search rules;
      mark = search rules;
      count = rw c.samples-samples.ensures (omega (arith, none));
      written = rw c.samples-samples.ensures
          (subst (λ (j : ℕ). WritesRows (IsFragmentSample f) c.args.limit c.args.writer.now.form (labels_of
          c.args.rule.now)
          c.args.before c.args.empty_before j c.args.empty_before
          c.args.writer.now.follows c.args.writer.now.follows (g.W.Write.contents c.args.output.now.inner)
          (g.W.Write.contents c.args.output.now.inner)) (sym zero)
          (writes_none (IsFragmentSample f) c.args.limit c.args.writer.now.form (labels_of c.args.rule.now)
          c.args.before
          c.args.empty_before c.args.writer.now.follows
          (g.W.Write.contents c.args.output.now.inner)));
    }

pub loop-preserved : goal.loop-preserved
loop-preserved g c =
    let f = c.args.fragment.now in
    let gives = rw c.in-Some-Ok.field-0-is at c.in-Some-Ok.ensures.steps in
    let is = subst (λ (f : Fragment). IsFragmentSample f (number_of c.loop.samples) c.in-Some-Ok.sample)
    c.loop.invariant.fragment gives.1 in
    let next : number_of c.next.new.self ≡ number_of c.loop.samples + 1 = gives.3 in
    let count : c.loop.count ≡ c.args.before + number_of c.loop.samples = c.loop.invariant.count in
    let listed : is_listed c.args.limit c.loop.empty c.in-Some-Ok.sample ≡ true =
    sym c.is_listed.ensures ∙ c.if-not-is_listed.false in
    record {
      fragment = gives.2 ∙ c.loop.invariant.fragment;
      on = gives.4;
      form = c.in_ok-write_sample-in-Some-Ok.ensures.form ∙ c.loop.invariant.form;
      mark = search rules;
      count = omega (arith, next, count);
      written = writes_next (IsFragmentSample f) c.args.limit c.args.writer.now.form (labels_of c.args.rule.now)
          c.args.before
          c.args.empty_before c.args.writer.now.follows (number_of c.loop.samples) (number_of c.next.new.self)
          (c.loop.count + 1) c.loop.empty c.empty_after-empty.result c.loop.writer.form c.loop.writer.follows
          c.write_sample.new.writer.follows
          (g.W.Write.contents c.args.output.now.inner) (g.W.Write.contents c.loop.output.inner)
          (g.W.Write.contents c.write_sample.new.output.inner) c.in-Some-Ok.sample
          c.loop.invariant.written is listed c.empty_after-empty.ensures next (omega (arith, count))
          c.loop.invariant.form
          c.in_ok-write_sample-in-Some-Ok.ensures.follows c.in_ok-write_sample-in-Some-Ok.ensures.row;
    }

pub returns-then-count-clause-begins : goal.returns-then-count-clause-begins
returns-then-count-clause-begins g c =
    begins_all (IsFragmentSample c.args.fragment.now) c.args.limit c.args.writer.now.form (labels_of c.args.rule.now)
    c.args.before
    c.args.empty_before c.args.writer.now.follows _ _ _ _ _ c.loop.invariant.written

pub returns-in_err-write_sample-in-Some-Ok-clause-begins : goal.returns-in_err-write_sample-in-Some-Ok-clause-begins
returns-in_err-write_sample-in-Some-Ok-clause-begins g c =
    let f = c.args.fragment.now in
    let gives = rw c.in-Some-Ok.field-0-is at c.in-Some-Ok.ensures.steps in
    let is = subst (λ (f : Fragment). IsFragmentSample f (number_of c.loop.samples) c.in-Some-Ok.sample)
    c.loop.invariant.fragment gives.1 in
    let count : c.loop.count ≡ c.args.before + number_of c.loop.samples = c.loop.invariant.count in
    let listed : is_listed c.args.limit c.loop.empty c.in-Some-Ok.sample ≡ true =
    sym c.is_listed.ensures ∙ c.if-not-is_listed.false in
    on_err _
    (begins_next (IsFragmentSample f) c.args.limit c.args.writer.now.form (labels_of c.args.rule.now) c.args.before
    c.args.empty_before c.args.writer.now.follows
    (number_of c.loop.samples) (c.loop.count + 1) c.loop.empty c.loop.writer.form c.loop.writer.follows
    (g.W.Write.contents c.args.output.now.inner) (g.W.Write.contents c.loop.output.inner)
    (g.W.Write.contents c.write_sample.new.output.inner) c.in-Some-Ok.sample
    c.loop.invariant.written is listed (omega (arith, count)) c.loop.invariant.form
    c.in_err-write_sample-in-Some-Ok.ensures.begins)

pub returns-in-Some-Err-clause-rows : goal.returns-in-Some-Err-clause-rows
returns-in-Some-Err-clause-rows g c =
    let gives = rw c.in-Some-Err.field-0-is at c.in-Some-Err.ensures.steps in
    record {
      samples = number_of c.loop.samples;
      count = c.loop.invariant.count;
      ends = (
        refl,
        subst (λ (f : Fragment). Faults f (number_of c.loop.samples) c.in-Some-Err.fault)
            c.loop.invariant.fragment gives.1,
      );
      rows = c.loop.invariant.written;
      time = λ u e. absurd cc;
    }

pub returns-then-not-is_listed-clause-rows : goal.returns-then-not-is_listed-clause-rows
returns-then-not-is_listed-clause-rows g c =
    let gives = rw c.in-Some-Ok.field-0-is at c.in-Some-Ok.ensures.steps in
    record {
      samples = number_of c.loop.samples;
      count = c.loop.invariant.count;
      ends = (
        subst (λ (f : Fragment). IsFragmentSample f (number_of c.loop.samples) c.in-Some-Ok.sample)
            c.loop.invariant.fragment gives.1,
        sym c.is_listed.ensures ∙ c.if-not-is_listed.true,
      );
      rows = c.loop.invariant.written;
      time = λ u e. absurd cc;
    }

pub returns-in-None-clause-rows : goal.returns-in-None-clause-rows
returns-in-None-clause-rows g c =
    let f = c.args.fragment.now in
    let t = c.next.new.self in
    let gives = c.in-None.ensures.steps in
    let last = gives.0 c.loop.invariant.on in
    record {
      samples = number_of c.loop.samples;
      count = c.loop.invariant.count;
      ends = subst (λ (f : Fragment). number_of c.loop.samples ≡ sample_total f) c.loop.invariant.fragment last.0;
      rows = c.loop.invariant.written;
      time = λ u e.
          c.time-in-None.ensures
          ∙ ap (λ (g : Fragment). sample_time g t.run t.index) (gives.2 ∙ c.loop.invariant.fragment)
          ∙ ap (λ (r : ℕ). sample_time f r t.index)
          (last.1 ∙ ap (λ (g : Fragment). length g.runs.now) c.loop.invariant.fragment)
          ∙ ap (λ (j : ℕ). sample_time f (length f.runs.now) j) last.2;
    }

pub returns-clause-begins : goal.returns-clause-begins
returns-clause-begins g c =
    begins_all (IsFragmentSample c.args.fragment.now) c.args.limit c.args.writer.now.form (labels_of c.args.rule.now)
    c.args.before
    c.args.empty_before c.args.writer.now.follows _ _ _ _ _ c.loop.invariant.written
