use Rattle.std.proofs.Common.{◌≡◌, ℕ, ◌+◌, ◌<◌, ◌≤◌, true, refl, subst, sym, ◌∙◌, arith, rules}
use Rattle.mp4_inspect_samples.proofs.RowLists.{writes_none, writes_next, begins_next, begins_all, on_err}
use Rattle.mp4_inspect_samples.proofs.rows.write_rows.Goals as goal
use Rattle.mp4_inspect_samples.specs.Listed.{is_listed}
use Rattle.mp4_inspect_samples.specs.Row.{labels_of}
use Rattle.mp4_inspect_samples.specs.Rows.{WritesRows}
use Rattle.mp4_samples.specs.Samples.{IsSample, sample_count}
use Rattle.mp4_samples.specs.declared.tables.Tables.{Tables}

pub loop-init : goal.loop-init
loop-init g c = record {
  tables = search rules;
  within = rw c.samples-samples.ensures (omega arith);
  form = search rules;
  mark = search rules;
  count = rw c.samples-samples.ensures refl;
  written = rw c.samples-samples.ensures
      (writes_none (IsSample c.args.tables.now) c.args.limit c.args.writer.now.form (labels_of c.args.rule.now) 0 0
      c.args.writer.now.follows
      (g.W.Write.contents c.args.output.now.inner));
}

pub loop-preserved : goal.loop-preserved
loop-preserved g c =
    let gives = c.in-Some.ensures.steps in
    let same = c.loop.invariant.tables in
    let below : c.loop.samples.number < sample_count c.args.tables.now =
    subst (λ (t : Tables). c.loop.samples.number < sample_count t) same gives.0 in
    let is = subst (λ (t : Tables). IsSample t c.loop.samples.number c.in-Some.sample) same gives.1 in
    let next : c.next.new.self.number ≡ c.loop.samples.number + 1 = gives.3 in
    let number : c.from-count.result ≡ c.next.new.self.number =
    omega (arith, c.from-count.ensures, c.number.ensures) in
    let listed : is_listed c.args.limit c.loop.empty c.in-Some.sample ≡ true =
    sym c.is_listed.ensures ∙ c.if-not-is_listed.false in
    record {
      tables = gives.2 ∙ same;
      within = omega (arith, below, next);
      form = c.in_ok-write_sample-in-Some.ensures.form ∙ c.loop.invariant.form;
      mark = search rules;
      count = number;
      written = writes_next (IsSample c.args.tables.now) c.args.limit c.args.writer.now.form (labels_of c.args.rule.now)
          0 0
          c.args.writer.now.follows
          c.loop.samples.number c.next.new.self.number c.from-count.result c.loop.empty c.empty_after-empty.result
          c.loop.writer.form c.loop.writer.follows c.write_sample.new.writer.follows
          (g.W.Write.contents c.args.output.now.inner) (g.W.Write.contents c.loop.output.inner)
          (g.W.Write.contents c.write_sample.new.output.inner) c.in-Some.sample
          c.loop.invariant.written is listed c.empty_after-empty.ensures next
          (omega (arith, next, number)) c.loop.invariant.form
          c.in_ok-write_sample-in-Some.ensures.follows c.in_ok-write_sample-in-Some.ensures.row;
    }

pub returns-in_err-write_sample-in-Some-clause-begins : goal.returns-in_err-write_sample-in-Some-clause-begins
returns-in_err-write_sample-in-Some-clause-begins g c =
    let gives = c.in-Some.ensures.steps in
    let is = subst (λ (t : Tables). IsSample t c.loop.samples.number c.in-Some.sample)
    c.loop.invariant.tables gives.1 in
    let next : c.next.new.self.number ≡ c.loop.samples.number + 1 = gives.3 in
    let number : c.from-count.result ≡ c.next.new.self.number =
    omega (arith, c.from-count.ensures, c.number.ensures) in
    let listed : is_listed c.args.limit c.loop.empty c.in-Some.sample ≡ true =
    sym c.is_listed.ensures ∙ c.if-not-is_listed.false in
    on_err _
    (begins_next (IsSample c.args.tables.now) c.args.limit c.args.writer.now.form (labels_of c.args.rule.now) 0 0
    c.args.writer.now.follows
    c.loop.samples.number c.from-count.result c.loop.empty c.loop.writer.form c.loop.writer.follows
    (g.W.Write.contents c.args.output.now.inner) (g.W.Write.contents c.loop.output.inner)
    (g.W.Write.contents c.write_sample.new.output.inner) c.in-Some.sample
    c.loop.invariant.written is listed (omega (arith, next, number)) c.loop.invariant.form
    c.in_err-write_sample-in-Some.ensures.begins)

pub returns-in-None-clause-rows : goal.returns-in-None-clause-rows
returns-in-None-clause-rows g c =
    subst (λ (j : ℕ). WritesRows (IsSample c.args.tables.now) c.args.limit c.args.writer.now.form (labels_of
    c.args.rule.now) 0 0 j
    c.loop.empty c.args.writer.now.follows c.loop.writer.follows (g.W.Write.contents c.args.output.now.inner)
    (g.W.Write.contents c.loop.output.inner)) (sym c.loop.invariant.count) c.loop.invariant.written

pub returns-in-None-clause-ends : goal.returns-in-None-clause-ends
returns-in-None-clause-ends g c =
    let gives = c.in-None.ensures.steps in
    let past : sample_count c.args.tables.now ≤ c.loop.samples.number =
    subst (λ (t : Tables). sample_count t ≤ c.loop.samples.number) c.loop.invariant.tables gives.0 in
    let within : c.loop.samples.number ≤ sample_count c.args.tables.now = c.loop.invariant.within in
    let count : c.loop.count ≡ c.loop.samples.number = c.loop.invariant.count in
    omega (arith, past, within, count)

pub returns-then-not-is_listed-clause-rows : goal.returns-then-not-is_listed-clause-rows
returns-then-not-is_listed-clause-rows g c =
    subst (λ (j : ℕ). WritesRows (IsSample c.args.tables.now) c.args.limit c.args.writer.now.form (labels_of
    c.args.rule.now) 0 0 j
    c.loop.empty c.args.writer.now.follows c.loop.writer.follows (g.W.Write.contents c.args.output.now.inner)
    (g.W.Write.contents c.loop.output.inner)) (sym c.loop.invariant.count) c.loop.invariant.written

pub returns-then-not-is_listed-clause-ends : goal.returns-then-not-is_listed-clause-ends
returns-then-not-is_listed-clause-ends g c =
    let gives = c.in-Some.ensures.steps in
    let is = subst (λ (t : Tables). IsSample t c.loop.samples.number c.in-Some.sample)
    c.loop.invariant.tables gives.1 in (
      subst (λ (j : ℕ). IsSample c.args.tables.now j c.in-Some.sample) (sym c.loop.invariant.count) is,
      sym c.is_listed.ensures ∙ c.if-not-is_listed.true,
    )

pub returns-clause-begins : goal.returns-clause-begins
returns-clause-begins g c =
    begins_all (IsSample c.args.tables.now) c.args.limit c.args.writer.now.form (labels_of c.args.rule.now) 0 0
    c.args.writer.now.follows _ _ _ _ _ c.loop.invariant.written
