use Rattle.std.proofs.Common.{ℕ, subst, sym}
use Rattle.std.specs.Prelude.{IfOk}
use Rattle.std.specs.declared.option.Option.{Option}
use Rattle.mp4_remux.specs.Edits.{IsPlace, level_of}
use Rattle.mp4_remux.proofs.edits.inserting.place_in.Goals as goal

pub returns-in-Some : goal.returns-in-Some
returns-in-Some c =
    subst
    (λ (before : Option ℕ).
    IfOk c.nth_in.result (IsPlace (level_of c.args.parent.now c.args.boxes.now) c.args.end before))
    (sym c.in-Some.is) (c.nth_in.ensures c.args.end)
