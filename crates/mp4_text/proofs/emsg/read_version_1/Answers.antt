use Rattle.std.proofs.Common.{arith}
use Rattle.std.proofs.lemmas.Result.{err_from_is_err_and}
use Rattle.mp4_text.proofs.Messages.{message_faults_1}
use Rattle.mp4_text.proofs.emsg.read_version_1.Goals as goal

pub returns-in_err-message_data : goal.returns-in_err-message_data
returns-in_err-message_data c =
    let p = err_from_is_err_and c.from_residual-in_err-message_data.result
    c.from_residual-in_err-message_data.ensures.1 in
    rw (p.1, p.2) (message_faults_1 c.args.bytes.now c.args.size _ _ _ (omega (arith, c.len.ensures, c.len-2.ensures))
    c.in_ok-expect_bytes.ensures c.in_ok-scheme_id_uri.ensures.texts c.in_err-message_data.ensures)
