use Rattle.std.proofs.Common.{◌≡◌, ℕ, ◌+◌, ◌<◌, length, subst, sym, ap, ◌∙◌, arith}
use Rattle.std.specs.Prelude.{slice_set}
use Rattle.std.proofs.lemmas.Grind.{drop_more_same}
use Rattle.std.proofs.lemmas.List.{drop-set-lt}
use Rattle.mp4_samples.specs.Samples.{IsSample, sample_count}
use Rattle.mp4_samples.specs.declared.tables.Tables.{Tables}
use Rattle.mp4_c.specs.declared.samples.SampleRow.{SampleRow}
use Rattle.mp4_c.proofs.Put.{IsPut, put_next}
use Rattle.mp4_c.proofs.samples.put_samples.Goals as goal

pub put-preserved : goal.put-preserved
put-preserved c =
    let t : Tables = c.args.tables.now in
    let i : ℕ = c.put.index in
    let s = c.in-Some.sample in
    let gives = c.in-Some.ensures.steps in
    let count : sample_count c.put.samples.tables ≡ sample_count t =
    ap (λ (u : Tables). sample_count u) c.put.invariant.tables in
    let below : i < sample_count t = omega (arith, gives.0, count, c.put.invariant.number) in
    let within : i < length c.put.rows = omega (arith, below, c.put.auto.rows, c.requires) in
    let is : IsSample t i s =
    subst (λ (u : Tables). IsSample u i s) c.put.invariant.tables
    (subst (λ (n : ℕ). IsSample c.put.samples.tables n s) c.put.invariant.number gives.1) in
    record {
      tables = gives.2 ∙ c.put.invariant.tables;
      number = gives.3 ∙ ap (λ (n : ℕ). n + 1) c.put.invariant.number;
      within = omega (arith, below);
      rows = λ k less. subst (λ (row : SampleRow). IsPut t (slice_set c.put.rows i row) k) (sym c.row_of.ensures)
          (put_next t c.put.rows i s within is c.put.invariant.rows k less);
      rest = drop-set-lt (i + 1) c.put.rows i c.row_of.result (omega arith)
          ∙ drop_more_same c.put.rows c.args.rows.now i c.put.invariant.rest;
    }
