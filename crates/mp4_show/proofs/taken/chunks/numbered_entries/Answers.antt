use Rattle.std.proofs.Common.{List, Option, None, Ok, sym, ap, ◌∙◌, arith}
use Rattle.mp4_tables.proofs.Chunks.{run_is}
use Rattle.mp4_tables.proofs.Runs.{run}
use Rattle.mp4_tables.specs.Chunks.{begins}
use Rattle.mp4_tables.specs.declared.stsc_entry.StscEntry.{StscEntry}
use Rattle.mp4_show.specs.TakenTables.{ChunkRun, runs_of}
use Rattle.mp4_show.proofs.ChunkRuns.{goes_on, stops, ends}
use Rattle.mp4_show.proofs.taken.chunks.numbered_entries.Goals as goal

abbrev entry_of : ChunkRun → StscEntry
entry_of r = r.0

-- a run of chunks outside of the list
abbrev no_run : ChunkRun
no_run = (record { first_chunk = 0; samples_per_chunk = 0; sample_description_index = 0; first_sample = 0 }, None)

pub returns-in_default : goal.returns-in_default
returns-in_default c =
    let es = runs_of c.args.runs.now in
    ap (λ (o : Option (List StscEntry)). Ok o)
    (sym (run_is es)
    ∙ stops entry_of c.args.runs.now c.loop-run.run-index c.loop-run.sample c.loop-run.chunk c.loop-run.samples no_run
    c.loop-run.entries.items (run 1 (begins es) 0 es) (omega arith) (sym c.in_default.ensures) c.loop-run.invariant)

pub loop-run-preserved : goal.loop-run-preserved
loop-run-preserved c =
    let es = runs_of c.args.runs.now in
    rw c.in_ok-push.ensures.items
    (goes_on entry_of c.args.runs.now c.loop-run.run-index c.loop-run.sample c.loop-run.chunk c.loop-run.samples
    c.in-Some-next_sample.next no_run c.loop-run.entries.items (run 1 (begins es) 0 es) (omega arith)
    (sym c.in-Some-next_sample.ensures) c.loop-run.invariant)

pub returns : goal.returns
returns c =
    let es = runs_of c.args.runs.now in
    ap (λ (o : Option (List StscEntry)). Ok o)
    (sym (run_is es)
    ∙ ends entry_of c.args.runs.now c.loop-run.run-index c.loop-run.sample c.loop-run.chunk c.loop-run.samples
    c.loop-run.entries.items (run 1 (begins es) 0 es) (omega arith) c.loop-run.invariant)
