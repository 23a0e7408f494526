-- The current rows and those of the remaining fragments are the rows of all fragments. A fault in a remaining fragment
-- is a fault of all fragments.
use Rattle.std.proofs.Common.{ℕ, List, ◌++◌, drop}
use Rattle.mp4_c.specs.FragmentSamples.{AreRows, StopsIn}
use Rattle.mp4_c.specs.declared.samples.SampleRow.{SampleRow}
use Rattle.mp4_c.proofs.fragment_samples.rows_of.Given as goal

abbrev pub invariant-all : goal.invariant-all
invariant-all l = record {
  rows : (later : List SampleRow) → AreRows l.time (drop l.index l.fragments) later
      → AreRows l.start l.fragments (l.rows.items ++ later);
  stops : (status : ℕ) → StopsIn l.time (drop l.index l.fragments) status → StopsIn l.start l.fragments status;
}
