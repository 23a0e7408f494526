use Rattle.std.proofs.Common.{◌≡◌, subst, sym}
use Rattle.std.specs.Prelude.{None, IfSome}
use Rattle.mp4_stream.specs.AnyBox.{held}
use Rattle.mp4_stream.specs.declared.any_box.AnyBox.{AnyBox}
use Rattle.mp4_stream.proofs.any_box.AnyBoxWriteBox.writable_size.Goals as goal

pub returns-in-Hev1Box-clause-some : goal.returns-in-Hev1Box-clause-some
returns-in-Hev1Box-clause-some c =
    subst (λ (v : AnyBox). IfSome c.writable_size-in-Hev1Box.result (λ _. (held v).Writable)) (sym c.in-Hev1Box.is)
    c.writable_size-in-Hev1Box.ensures.some

pub returns-in-Hev1Box-clause-none : goal.returns-in-Hev1Box-clause-none
returns-in-Hev1Box-clause-none c =
    subst (λ (v : AnyBox). c.writable_size-in-Hev1Box.result ≡ None → ¬ (held v).Writable) (sym c.in-Hev1Box.is)
    c.writable_size-in-Hev1Box.ensures.none
