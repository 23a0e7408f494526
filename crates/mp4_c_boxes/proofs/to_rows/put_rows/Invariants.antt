use Rattle.std.proofs.Common.{◌≡◌, take, drop}
use Rattle.mp4_c_boxes.proofs.to_rows.put_rows.Given as goal

abbrev pub invariant-loop-index : goal.invariant-loop-index
invariant-loop-index g l = record {
  front : take l.index l.rows ≡ take l.index (g.V.ToRows.rows l.value);
  rest : drop l.index l.rows ≡ drop l.index l.initial.rows;
}
