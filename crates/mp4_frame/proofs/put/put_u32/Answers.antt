use Rattle.std.proofs.Common.{arith}
use Rattle.mp4_frame.proofs.Fields.{put_be_bytes}
use Rattle.mp4_frame.proofs.put.put_u32.Goals as goal

pub returns-clause-put : goal.returns-clause-put
returns-clause-put c =
    put_be_bytes c.args.out.now c.args.at _ 4 c.args.n c.write_u32.new.buf _ (omega arith) c.write_u32.ensures
