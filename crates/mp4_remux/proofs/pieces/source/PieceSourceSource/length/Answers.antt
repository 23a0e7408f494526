use Rattle.std.proofs.Common.{◌≡◌, length, ap, subst, ◌∙◌}
use Rattle.std.specs.Prelude.{IfSome}
use Rattle.mp4_remux.specs.NewFiles.{NewFile, bytes_by}
use Rattle.mp4_remux.specs.Pieces.{lengths}
use Rattle.mp4_remux.proofs.Windows.{known_length}
use Rattle.mp4_remux.proofs.pieces.source.PieceSourceSource.length.Goals as goal

pub returns-clause-value : goal.returns-clause-value
returns-clause-value g c =
    subst (λ (f : NewFile). IfSome (bytes_by f) (λ C. c.length.result ≡ length C)) c.self.view_is
    (known_length _ c.length.result c.self.invariant (c.length.ensures ∙ ap lengths c.deref.ensures))
