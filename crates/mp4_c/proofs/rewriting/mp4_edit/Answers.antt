use Rattle.std.proofs.Common.{ℕ, List}
use Rattle.mp4_c.specs.Changes.{MakesEdited}
use Rattle.mp4_c.proofs.Rewrites.{weaker}
use Rattle.mp4_c.proofs.rewriting.mp4_edit.Goals as goal
use Rattle.mp4_remux_files.specs.Tasks.{MakesFile}
use Rattle.mp4_remux_files.specs.declared.task.Done.{Done}
use Rattle.mp4_remux_files.specs.declared.task.Task.TheVariants as tasks

pub returns-in-Ok : goal.returns-in-Ok
returns-in-Ok c =
    let changes = c.in-Ok.changes in
    let B = c.args.bytes.now in
    weaker (λ (done : Done) (C : List ℕ). MakesFile (tasks.Edit changes) B done C)
    (λ (done : Done) (C : List ℕ). MakesEdited c.args.data.now c.args.changes.now B done C) B _ _ _ _ _
    (λ done C makes. (changes.items, c.in-Ok.ensures, makes)) c.copy_task.ensures
