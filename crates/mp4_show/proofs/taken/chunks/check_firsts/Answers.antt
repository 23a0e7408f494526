use Rattle.std.proofs.Common.{None, arith, rules}
use Rattle.mp4_tables.specs.declared.stsc_entry.StscEntry.{StscEntry}
use Rattle.mp4_show.specs.TakenTables.{ChunkRun, firsts_agree}
use Rattle.mp4_show.proofs.TakenFirsts.{agrees_at, differs_at, none_left}
use Rattle.mp4_show.proofs.taken.chunks.check_firsts.Goals as goal

-- an entry outside of the list, and a run
abbrev no_entry : StscEntry
no_entry = record { first_chunk = 0; samples_per_chunk = 0; sample_description_index = 0; first_sample = 0 }

abbrev no_run : ChunkRun
no_run = (no_entry, None)

pub returns-then-not-agrees_with : goal.returns-then-not-agrees_with
returns-then-not-agrees_with c =
    let name = c.args.name.now in
    let es = c.args.entries.now in
    let runs = c.args.runs.now in
    differs_at name es runs (firsts_agree name 0 es runs) c.in_entry.result c.refuse-error.result c.loop-index.index
    no_entry no_run (omega arith) (omega arith) (search rules) c.loop-index.invariant c.refuse-error.ensures
    c.in_entry.ensures

pub loop-index-preserved : goal.loop-index-preserved
loop-index-preserved c =
    let name = c.args.name.now in
    let es = c.args.entries.now in
    let runs = c.args.runs.now in
    agrees_at name es runs (firsts_agree name 0 es runs) c.loop-index.index no_entry no_run (omega arith) (omega arith)
    (search rules) c.loop-index.invariant

pub returns : goal.returns
returns c =
    let name = c.args.name.now in
    let es = c.args.entries.now in
    let runs = c.args.runs.now in
    none_left name es runs (firsts_agree name 0 es runs) c.loop-index.index (omega arith) c.loop-index.invariant
