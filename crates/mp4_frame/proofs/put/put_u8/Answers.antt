use Rattle.std.proofs.Common.{arith}
use Rattle.mp4_frame.proofs.Fields.{put_byte}
use Rattle.mp4_frame.proofs.put.put_u8.Goals as goal

pub returns-clause-put : goal.returns-clause-put
returns-clause-put c = put_byte c.args.out.now c.args.at c.args.n (omega arith) (omega arith)
