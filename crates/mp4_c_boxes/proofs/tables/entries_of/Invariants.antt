use Rattle.std.proofs.Common.{◌≡◌, ◌≤◌, length, take, map, vec_len, vec_capacity}
use Rattle.mp4_c_boxes.proofs.tables.entries_of.Given as goal

abbrev pub invariant-loop-row : goal.invariant-loop-row
invariant-loop-row g l = record {
  entries : l.entries.items ≡ map g.T.FromRow.entry_of (take l.row-index l.rows);
  count : vec_len l.entries ≡ l.row-index;
  room : length l.rows ≤ vec_capacity l.entries;
}
