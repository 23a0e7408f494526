use Rattle.std.proofs.Common.{◌≡◌, drop, is_some}
use Rattle.mp4_tables.proofs.Runs.{run}
use Rattle.mp4_tables.specs.Chunks.{begins}
use Rattle.mp4_tables.proofs.stsc.samples_fit.Given as goal

abbrev pub invariant-loop-entry : goal.invariant-loop-entry
invariant-loop-entry l =
    is_some (run l.sample l.chunk l.samples (drop l.entry-index l.entries))
    ≡ is_some (run 1 (begins l.entries) 0 l.entries)
