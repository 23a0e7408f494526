use Rattle.std.proofs.Common.{sym, arith, map, rules, []}
use Rattle.mp4_tables.proofs.Runs.{run, goes_on, stops, ends}
use Rattle.mp4_tables.proofs.Chunks.{numbered, refused}
use Rattle.mp4_tables.specs.Chunks.{begins}
use Rattle.mp4_tables.specs.StscEntry.{entry_stsc}
use Rattle.mp4_tables.proofs.stsc.numbered_entries.Goals as goal

pub returns-in_default : goal.returns-in_default
returns-in_default c =
    refused c.args.rows.now
    (stops c.args.rows.now c.loop-row.row-index c.loop-row.sample c.loop-row.chunk c.loop-row.samples
    c.from_row-entry.result [] c.loop-row.entries.items
    (run 1 (begins (map entry_stsc c.args.rows.now)) 0 (map entry_stsc c.args.rows.now)) (omega arith)
    c.from_row-entry.ensures (sym c.in_default.ensures) c.loop-row.invariant.numbered)

pub loop-row-preserved : goal.loop-row-preserved
loop-row-preserved c =
    let total = run 1 (begins (map entry_stsc c.args.rows.now)) 0 (map entry_stsc c.args.rows.now) in
    record {
      numbered = rw c.push_reserved.ensures.items
          (goes_on c.args.rows.now c.loop-row.row-index c.loop-row.sample c.loop-row.chunk c.loop-row.samples
          c.in-Some-next_sample.next c.from_row-entry.result [] c.loop-row.entries.items total (omega arith)
          c.from_row-entry.ensures (sym c.in-Some-next_sample.ensures) c.loop-row.invariant.numbered);
      count = search rules;
      room = search rules;
    }

pub returns : goal.returns
returns c =
    numbered c.args.rows.now c.loop-row.entries.items
    (ends c.args.rows.now c.loop-row.row-index c.loop-row.sample c.loop-row.chunk c.loop-row.samples
    c.loop-row.entries.items (run 1 (begins (map entry_stsc c.args.rows.now)) 0 (map entry_stsc c.args.rows.now))
    (omega arith) c.loop-row.invariant.numbered)
