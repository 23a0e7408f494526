use Rattle.std.proofs.Common.{◌≡◌, ◌≤◌, length, take, map, vec_len, vec_capacity}
use Rattle.mp4_c_boxes.specs.Fragments.{column_in}
use Rattle.mp4_c_boxes.proofs.fragments.column_if.Given as goal

abbrev pub invariant-loop-row : goal.invariant-loop-row
invariant-loop-row l = record {
  numbers : l.numbers.items ≡ map (column_in l.column) (take l.row-index l.rows);
  count : vec_len l.numbers ≡ l.row-index;
  room : length l.rows ≤ vec_capacity l.numbers;
}
