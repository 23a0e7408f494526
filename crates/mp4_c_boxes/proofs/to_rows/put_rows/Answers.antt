use Rattle.std.proofs.Common.{◌<◌, ◌+◌, ℕ, length, arith, ◌∙◌}
use Rattle.std.proofs.lemmas.Grind.{drop_more_same}
use Rattle.std.proofs.lemmas.List.{drop-set-lt}
use Rattle.mp4_lemmas.proofs.Lists.{put_next}
use Rattle.mp4_c_boxes.proofs.to_rows.put_rows.Goals as goal

pub loop-index-preserved : goal.loop-index-preserved
loop-index-preserved g c =
    let i : ℕ = c.loop-index.index in
    let within : i < length c.loop-index.rows =
    omega (arith, c.loop-index-test.true, c.count-index-end.ensures, c.requires) in
    record {
      front = put_next (g.V.ToRows.rows c.args.value.now) c.loop-index.rows i c.row.result within c.row.ensures
          c.loop-index.invariant.front;
      rest = drop-set-lt (i + 1) c.loop-index.rows i c.row.result (omega arith)
          ∙ drop_more_same c.loop-index.rows c.args.rows.now i c.loop-index.invariant.rest;
    }
