use Rattle.std.proofs.Common.{◌≡◌, ◌<◌, ◌^◌, ℤ, ap, ◌∙◌, arith, rules}
use Rattle.std.proofs.lemmas.Int.{ints}
use Rattle.mp4_tables.specs.declared.trun.TrunBox.{TrunBox}
use Rattle.mp4_samples.specs.Fragments.{base_of, bytes_before, run_at, start_after}
use Rattle.mp4_samples.proofs.Fragments.{runs_end_more}
use Rattle.mp4_samples.proofs.fragment_end.with_run.Goals as goal

pub overflow_add-result-2 : goal.overflow_add-result-2
overflow_add-result-2 c =
    let small : c.bytes_of.result < 2 ^ 64 = search rules in
    omega (
      arith,
      ints,
      small,
      c.from.ensures,
      c.begin_after-begin.ensures.low,
      c.begin_after-begin.ensures.high,
      c.requires.few,
    )

pub returns-clause-at : goal.returns-clause-at
returns-clause-at c =
    let f = c.args.fragment.now in
    let p = c.args.reached in
    let t = c.run_of-trun.result.now in
    let small : c.bytes_of.result < 2 ^ 64 = search rules in
    let low = c.begin_after-begin.ensures.low in
    let high = c.begin_after-begin.ensures.high in
    let more = runs_end_more f p.run c.requires.within in
    let bytes : c.bytes_of.result ≡ bytes_before f (run_at f p.run) (run_at f p.run).sample_count =
    c.bytes_of.ensures ∙ ap (λ (u : TrunBox). bytes_before f u u.sample_count) c.run_of-trun.ensures in
    let begin : c.begin_after-begin.result ≡ start_after (base_of f) p.end (run_at f p.run).data_offset =
    c.begin_after-begin.ensures.begin
    ∙ ap (λ (u : TrunBox). start_after (base_of f) p.end u.data_offset) c.run_of-trun.ensures in
    let from = ap (λ (z : ℤ). start_after (base_of f) z (run_at f p.run).data_offset) c.requires.at.end in
    record {
      within = omega (arith, c.requires.within);
      end = omega (arith, ints, more, bytes, begin, from, small, low, high, c.from.ensures, c.requires.few);
      low = omega (arith, ints, small, low, high, c.from.ensures, c.requires.few);
      high = omega (arith, ints, small, low, high, c.from.ensures, c.requires.few);
    }
