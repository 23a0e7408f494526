use Rattle.std.proofs.Common.{ℕ, List, inl, subst, ap, ◌∙◌}
use Rattle.mp4_c.specs.NewFiles.{ArePieces, file_of}
use Rattle.mp4_c.proofs.rewriting.copy_plan.Goals as goal
use Rattle.mp4_remux.specs.declared.pieces.piece.Piece.{Piece}

pub returns-in-Ok : goal.returns-in-Ok
returns-in-Ok c =
    let found = c.in-Ok.found in
    let are = subst (λ (ps : List Piece). ArePieces ps found) c.pieces.ensures c.in-Ok.ensures in
    let counts = c.file_of.ensures ∙ ap (λ (n : ℕ). file_of found n c.args.done) c.length.ensures in
    inl (found, are, counts, c.fill_file.ensures)
