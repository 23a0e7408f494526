use Rattle.std.proofs.Common.{refl, rules}
use Rattle.mp4_samples.specs.Samples.{IsSample}
use Rattle.mp4_inspect_samples.proofs.RowLists.{writes_as}
use Rattle.mp4_inspect_samples.proofs.tables.write_agreed.Goals as goal
use Rattle.mp4_inspect_samples.specs.Row.{labels_of}
use Rattle.mp4_inspect_samples.specs.Rows.{is_headed}

pub returns-clause-writes : goal.returns-clause-writes
returns-clause-writes g c = record {
  mid = g.W.Write.contents c.write_heading.new.output.inner;
  heading = c.in_ok-write_heading.ensures.heading;
  rows = writes_as (IsSample c.args.tables.now) c.args.limit c.args.writer.now.form c.write_heading.new.writer.form
      (labels_of c.args.rule.now) c.in_ok-end.end.count c.in_ok-end.end.empty
      (is_headed c.args.writer.now.form c.args.writer.now.follows) c.write_heading.new.writer.follows
      c.write_rows.new.writer.follows (g.W.Write.contents c.write_heading.new.output.inner)
      (g.W.Write.contents c.write_rows.new.output.inner) c.in_ok-end.ensures.rows (search rules) (search rules);
  next = c.in_ok-end.end.unlisted;
  ends = c.in_ok-end.ensures.ends;
  unlisted = search rules;
  time_is = refl;
}
