use Rattle.std.proofs.Common.{refl}
use Rattle.mp4_inspect_samples.proofs.tables.write_no_rows.Goals as goal

pub returns-clause-writes : goal.returns-clause-writes
returns-clause-writes g c = record {
  heading = c.in_ok-write_heading.ensures.heading;
  after = c.in_ok-write_heading.ensures.follows;
  none = refl;
}
