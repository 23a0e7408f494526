use Rattle.std.proofs.Common.{◌≡◌, ◌+◌, ◌++◌, take, map, vec_len, vec_capacity}
use Rattle.mp4_frame.specs.Bytes.{number}
use Rattle.mp4_tables.proofs.rows.append_numbers.Given as goal

abbrev pub invariant-loop-row : goal.invariant-loop-row
invariant-loop-row g l = record {
  appended : l.numbers.items ≡ l.initial.numbers.items ++ map (λ row. number row l.at 4) (take l.row-index l.rows);
  len : vec_len l.numbers ≡ vec_len l.initial.numbers + l.row-index;
  capacity : vec_capacity l.numbers ≡ vec_capacity l.initial.numbers;
}
