use Rattle.std.proofs.Common.{◌≡◌, ◌*◌, rules}
use Rattle.std.proofs.lemmas.Result.{err_from_is_err_and}
use Rattle.mp4_frame.proofs.Tables.{rows_value, rows_fault, rows_past_all}
use Rattle.mp4_frame.proofs.reading.rows_at.Goals as goal

pub returns-in_default-clause-rows : goal.returns-in_default-clause-rows
returns-in_default-clause-rows g c =
    rows_past_all c.args.bytes.now c.args.at g.row.E c.args.n (search rules) (search rules)

pub returns-in_err-piece_at-clause-rows : goal.returns-in_err-piece_at-clause-rows
returns-in_err-piece_at-clause-rows g c =
    let p = err_from_is_err_and c.from_residual.result c.from_residual.ensures.1 in
    let width : c.in-Some.width ≡ c.args.n * g.row.E = c.in-Some.ensures.1 in
    rw (p.1, p.2) (rows_fault c.args.bytes.now c.args.at g.row.E c.args.n c.in-Some.width _ width
    c.in_err-piece_at.ensures.piece)

pub returns-clause-rows : goal.returns-clause-rows
returns-clause-rows g c =
    let width : c.in-Some.width ≡ c.args.n * g.row.E = c.in-Some.ensures.1 in
    rw c.as_chunks.ensures.front
    (rows_value c.args.bytes.now c.in_ok-piece_at.field-0.now c.args.at g.row.E c.args.n c.in-Some.width c.requires
    width c.in_ok-piece_at.ensures.long c.in_ok-piece_at.ensures.piece)
