use Rattle.std.proofs.Common.{arith}
use Rattle.mp4_frame.proofs.Fields.{put_be_bytes}
use Rattle.mp4_sound.proofs.uint.put_uint.Goals as goal

pub returns-clause-put : goal.returns-clause-put
returns-clause-put c =
    put_be_bytes c.args.out.now c.args.at _ c.args.width c.args.n c.write_uint.new.buf _ (omega arith)
    c.write_uint.ensures
