use Rattle.std.proofs.Common.{◌≡◌, drop}
use Rattle.mp4_tables.proofs.Runs.{run, with_front}
use Rattle.mp4_tables.specs.Chunks.{begins}
use Rattle.mp4_show.specs.TakenTables.{runs_of}
use Rattle.mp4_show.proofs.taken.chunks.numbered_entries.Given as goal

abbrev pub invariant-loop-run : goal.invariant-loop-run
invariant-loop-run l =
    with_front l.entries.items (run l.sample l.chunk l.samples (runs_of (drop l.run-index l.runs)))
    ≡ run 1 (begins (runs_of l.runs)) 0 (runs_of l.runs)
