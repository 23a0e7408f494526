use Rattle.std.proofs.Common.{◌∙◌, sym, is_some, arith}
use Rattle.mp4_tables.proofs.Runs.{still, halts, passes}
use Rattle.mp4_tables.proofs.Chunks.{run_fits}
use Rattle.mp4_tables.proofs.Runs.{run}
use Rattle.mp4_tables.specs.Chunks.{begins}
use Rattle.mp4_tables.specs.declared.stsc_entry.StscEntry.{StscEntry}
use Rattle.mp4_tables.proofs.stsc.samples_fit.Goals as goal

zero : StscEntry
zero = record { first_chunk = 0; samples_per_chunk = 0; sample_description_index = 0; first_sample = 0 }

pub returns-in_default : goal.returns-in_default
unfolding zero
returns-in_default c =
    halts c.args.entries.now c.loop-entry.entry-index c.loop-entry.sample c.loop-entry.chunk c.loop-entry.samples zero
    (is_some (run 1 (begins c.args.entries.now) 0 c.args.entries.now)) (omega arith) (sym c.in_default.ensures)
    c.loop-entry.invariant ∙ run_fits c.args.entries.now

pub loop-entry-preserved : goal.loop-entry-preserved
unfolding zero
loop-entry-preserved c =
    still c.args.entries.now c.loop-entry.entry-index c.loop-entry.sample c.loop-entry.chunk c.loop-entry.samples
    c.in-Some-next_sample.next zero (is_some (run 1 (begins c.args.entries.now) 0 c.args.entries.now)) (omega arith)
    (sym c.in-Some-next_sample.ensures) c.loop-entry.invariant

pub returns : goal.returns
returns c =
    passes c.args.entries.now c.loop-entry.entry-index c.loop-entry.sample c.loop-entry.chunk c.loop-entry.samples
    (is_some (run 1 (begins c.args.entries.now) 0 c.args.entries.now)) (omega arith) c.loop-entry.invariant
    ∙ run_fits c.args.entries.now
