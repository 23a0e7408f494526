-- The rows of the samples so far are written.
use Rattle.std.proofs.Common.{◌≡◌, ◌≤◌}
use Rattle.mp4_samples.specs.Samples.{IsSample, sample_count}
use Rattle.mp4_inspect_samples.specs.Row.{labels_of}
use Rattle.mp4_inspect_samples.specs.Rows.{WritesRows}
use Rattle.mp4_inspect_samples.proofs.rows.write_rows.Given as goal

abbrev pub invariant-loop : goal.invariant-loop
invariant-loop g l = record {
  tables : l.samples.tables ≡ l.tables;
  within : l.samples.number ≤ sample_count l.tables;
  form : l.writer.form ≡ l.initial.writer.form;
  mark : l.output.failed ≡ l.initial.output.failed;
  count : l.count ≡ l.samples.number;
  written : WritesRows (IsSample l.tables) l.limit l.initial.writer.form (labels_of l.rule) 0 0 l.samples.number l.empty
      l.initial.writer.follows l.writer.follows (g.W.Write.contents l.initial.output.inner)
      (g.W.Write.contents l.output.inner);
}
