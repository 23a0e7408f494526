use Rattle.std.proofs.Common.{◌≡◌, ◌+◌, ◌*◌, ◌++◌, take}
use Rattle.mp4_tables.specs.Trun.{rows_trun}
use Rattle.mp4_tables.specs.TrunRows.{row_flags, row_length}
use Rattle.mp4_tables.proofs.trun.rows.put_rows_of.Given as goal

abbrev pub invariant-loop-i : goal.invariant-loop-i
invariant-loop-i g l = record {
  next : l.next ≡ l.at + row_length (row_flags l.trun.flags) * l.i;
  written : take l.next l.out ≡ take l.at l.initial.out ++ rows_trun l.trun l.i;
}
