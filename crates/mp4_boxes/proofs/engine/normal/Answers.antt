use Rattle.std.proofs.lemmas.Result.{err_from_is_err_and}
use Rattle.mp4_boxes.proofs.Refusals.{refusal}
use Rattle.mp4_boxes.proofs.engine.normal.Goals as goal

pub returns-in_err-normalize : goal.returns-in_err-normalize
returns-in_err-normalize c =
    let p = err_from_is_err_and c.from_residual.result c.from_residual.ensures.1 in
    rw (p.1, p.2) (refusal c.args.bytes.items c.in_err-normalize.field-0.0 c.in_err-normalize.ensures.answer)
