use Rattle.std.proofs.Common.{subst}
use Rattle.mp4_stream.specs.AnyBox.{held}
use Rattle.mp4_stream.specs.declared.any_box.AnyBox.{AnyBox}
use Rattle.mp4_stream.proofs.any_box.AnyBoxWriteBox.put_at_front.Goals as goal

pub put_at_front-requires-in-Hev1Box-clause-writable : goal.put_at_front-requires-in-Hev1Box-clause-writable
put_at_front-requires-in-Hev1Box-clause-writable c =
    subst (λ (v : AnyBox). (held v).Writable) c.in-Hev1Box.is c.requires.writable
