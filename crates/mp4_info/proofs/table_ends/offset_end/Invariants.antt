-- The end of all samples is that of the samples after those of the entries before the index, after the end that was
-- found before them.
use Rattle.std.proofs.Common.{◌≡◌, ◌≤◌, drop}
use Rattle.mp4_info.specs.Composition.{largest}
use Rattle.mp4_info.specs.TableEnds.{Counts}
use Rattle.mp4_info.specs.Totals.{offset_end}
use Rattle.mp4_info.proofs.table_ends.offset_end.Given as goal

abbrev pub invariant-loop-index : goal.invariant-loop-index
invariant-loop-index l = record {
  counts : Counts l.entries l.passed;
  few : l.passed.samples ≤ l.count;
  fits : l.count ≤ largest;
  so_far : offset_end l.entries l.count l.latest (drop l.index l.offsets) ≡ offset_end l.entries 0 0 l.offsets;
}
