use Rattle.std.proofs.Common.{List, ℕ, subst}
use Rattle.std.proofs.KnownBytes.{Appends-nil}
use Rattle.std.specs.Io.KnownBytes.{Appends}
use Rattle.mp4_inspect_samples.proofs.RowLists.{no_row}
use Rattle.mp4_inspect_samples.proofs.rows.write_sample.Goals as goal
use Rattle.mp4_inspect_samples.specs.Row.{labels_of}

pub returns-then-not-sample-clause-row : goal.returns-then-not-sample-clause-row
returns-then-not-sample-clause-row g c =
    let old = g.W.Write.contents c.args.output.now.inner in (
      c.shown_of-shown.result,
      c.shown_of-shown.ensures,
      subst (λ (t : List ℕ). Appends old old t)
          (no_row c.args.writer.now.form (labels_of c.args.rule.now) c.args.writer.now.follows c.args.number
          c.args.sample.now c.shown_of-shown.result c.if-rule.true c.if-not-sample.true) (Appends-nil old),
    )
