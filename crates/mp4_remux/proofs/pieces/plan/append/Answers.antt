use Rattle.std.proofs.Common.{◌++◌, ◌∷◌, [], List, ℕ, refl, sym, ap, ◌∙◌, subst}
use Rattle.mp4_remux.specs.declared.pieces.piece.Piece.{Piece}
use Rattle.mp4_remux.specs.Pieces.{spelled}
use Rattle.mp4_remux.specs.Plans.{AreEnds}
use Rattle.mp4_remux.proofs.Plans.{ends_push, spelled_push}
use Rattle.mp4_remux.proofs.pieces.plan.append.Goals as goal

pub returns-clause-ends : goal.returns-clause-ends
returns-clause-ends c =
    subst (λ (ps : List Piece). AreEnds ps c.push_to.new.items.items) (sym (c.if-not-push_to-2.ensures.added refl))
    (subst (λ (es : List ℕ). AreEnds (c.args.pieces.now.items ++ c.args.piece ∷ []) es)
    (sym (c.if-not-push_to.ensures.added refl))
    (ends_push c.args.pieces.now.items c.args.ends.now.items c.args.piece c.args.end c.requires.ends c.requires.end))

pub returns-clause-bytes : goal.returns-clause-bytes
returns-clause-bytes c B =
    ap (spelled B) (c.if-not-push_to-2.ensures.added refl) ∙ spelled_push B c.args.pieces.now.items c.args.piece
