-- The rows of the samples so far are written.
use Rattle.std.proofs.Common.{◌≡◌, ◌+◌, false}
use Rattle.mp4_samples.specs.FragmentGives.{number_of}
use Rattle.mp4_samples.specs.Fragments.{IsFragmentSample}
use Rattle.mp4_inspect_samples.specs.Row.{labels_of}
use Rattle.mp4_inspect_samples.specs.Rows.{WritesRows}
use Rattle.mp4_inspect_samples.proofs.rows.write_fragment_rows.Given as goal

abbrev pub invariant-loop : goal.invariant-loop
invariant-loop g l = record {
  fragment : l.samples.fragment ≡ l.fragment;
  on : l.samples.ended ≡ false;
  form : l.writer.form ≡ l.initial.writer.form;
  mark : l.output.failed ≡ l.initial.output.failed;
  count : l.count ≡ l.before + number_of l.samples;
  written : WritesRows (IsFragmentSample l.fragment) l.limit l.initial.writer.form (labels_of l.rule) l.before
      l.empty_before
      (number_of l.samples) l.empty l.initial.writer.follows l.writer.follows
      (g.W.Write.contents l.initial.output.inner) (g.W.Write.contents l.output.inner);
}
