-- The entries that were passed are counted, and all their samples are among the first `count`.
use Rattle.std.proofs.Common.{◌≤◌, ◌-◌, length}
use Rattle.mp4_info.specs.TableEnds.{Counts}
use Rattle.mp4_info.proofs.table_ends.pass.Given as goal

abbrev pub invariant-entries : goal.invariant-entries
invariant-entries l = record { counts : Counts l.entries l.passed; few : l.passed.samples ≤ l.count }

abbrev pub decreases-entries : goal.decreases-entries
decreases-entries l = length l.entries - l.passed.entries
