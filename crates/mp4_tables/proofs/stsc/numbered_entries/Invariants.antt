use Rattle.std.proofs.Common.{◌≡◌, ◌≤◌, length, drop, map, vec_len, vec_capacity}
use Rattle.mp4_tables.proofs.Runs.{run, with_front}
use Rattle.mp4_tables.specs.Chunks.{begins}
use Rattle.mp4_tables.specs.StscEntry.{entry_stsc}
use Rattle.mp4_tables.proofs.stsc.numbered_entries.Given as goal

abbrev pub invariant-loop-row : goal.invariant-loop-row
invariant-loop-row l = record {
  numbered : with_front l.entries.items (run l.sample l.chunk l.samples (map entry_stsc (drop l.row-index l.rows)))
      ≡ run 1 (begins (map entry_stsc l.rows)) 0 (map entry_stsc l.rows);
  count : vec_len l.entries ≡ l.row-index;
  room : length l.rows ≤ vec_capacity l.entries;
}
