use Rattle.std.proofs.Common.{◌≡◌, ℕ, List, length, refl, subst, sym}
use Rattle.mp4_c.proofs.Rewrites.{planned}
use Rattle.mp4_c.proofs.rewriting.copy_task.Goals as goal
use Rattle.mp4_remux.specs.Pieces.{AreWithin, spelled}
use Rattle.mp4_remux.specs.declared.pieces.piece.Piece.{Piece}
use Rattle.mp4_remux_files.specs.Tasks.{MakesFile}
use Rattle.mp4_remux_files.specs.declared.task.Done.{Done}

pub returns-in-Ok : goal.returns-in-Ok
returns-in-Ok c =
    let task = c.args.task in
    let B = c.args.bytes.now in
    let done = c.in-Ok.done in
    let is : c.deref.result.now ≡ c.in-Ok.planned.plan.value = c.deref.ensures in
    let within = subst (λ (ps : List Piece). AreWithin (length B) ps) (sym is) c.in-Ok.ensures.within in
    let makes = subst (λ (ps : List Piece). MakesFile task B done (spelled B ps)) (sym is)
    (c.in-Ok.ensures.file refl) in
    planned (λ (d : Done) (C : List ℕ). MakesFile task B d C) B c.deref.result.now done _ _ _ _ _ within makes
    c.copy_plan.ensures refl
