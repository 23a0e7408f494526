use Rattle.std.proofs.Common.{sym, take, arith}
use Rattle.std.proofs.lemmas.List.{append-nil}
use Rattle.mp4_frame.specs.Bytes.{be_bytes}
use Rattle.mp4_frame.proofs.Fields.{put_be_bytes}
use Rattle.mp4_declared.proofs.bits.put_number.Goals as goal

pub returns-then-width-eq0-clause-put : goal.returns-then-width-eq0-clause-put
unfolding be_bytes
returns-then-width-eq0-clause-put c = rw c.if-width-eq0.true (sym (append-nil (take c.args.at c.args.out.now)))

pub returns-clause-put : goal.returns-clause-put
returns-clause-put c =
    put_be_bytes c.args.out.now c.args.at _ c.args.width c.args.n c.write_uint.new.buf _ (omega arith)
    c.write_uint.ensures
