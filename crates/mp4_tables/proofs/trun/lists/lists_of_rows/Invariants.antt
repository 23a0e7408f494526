use Rattle.std.proofs.Common.{◌≡◌, ◌≤◌, ◌+◌, ◌++◌, length, vec_len, vec_capacity}
use Rattle.mp4_tables.specs.TrunLists.{column_if, count_if}
use Rattle.mp4_tables.specs.TrunRows.{size_in_row, flags_in_row, cts_in_row}
use Rattle.mp4_tables.proofs.trun.lists.lists_of_rows.Given as goal

abbrev pub invariant-loop-rest : goal.invariant-loop-rest
invariant-loop-rest g l = record {
  durations : l.durations.items ++ column_if l.has.duration 0 l.rest ≡ column_if l.has.duration 0 l.rows;
  sizes : l.sizes.items ++ column_if l.has.size (size_in_row l.has) l.rest
      ≡ column_if l.has.size (size_in_row l.has) l.rows;
  flags : l.sample_flags.items ++ column_if l.has.flags (flags_in_row l.has) l.rest
      ≡ column_if l.has.flags (flags_in_row l.has) l.rows;
  cts : l.cts.items ++ column_if l.has.cts (cts_in_row l.has) l.rest ≡ column_if l.has.cts (cts_in_row l.has) l.rows;
  durations_room : vec_len l.durations + count_if l.has.duration (length l.rest) ≤ vec_capacity l.durations;
  sizes_room : vec_len l.sizes + count_if l.has.size (length l.rest) ≤ vec_capacity l.sizes;
  flags_room : vec_len l.sample_flags + count_if l.has.flags (length l.rest) ≤ vec_capacity l.sample_flags;
  cts_room : vec_len l.cts + count_if l.has.cts (length l.rest) ≤ vec_capacity l.cts;
}

abbrev pub decreases-loop-rest : goal.decreases-loop-rest
decreases-loop-rest g l = length l.rest
