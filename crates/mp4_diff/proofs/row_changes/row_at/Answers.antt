use Rattle.std.proofs.Common.{◌∙◌, ℕ, ap, sym}
use Rattle.std.specs.declared.option.Option.{Option}
use Rattle.mp4_diff.proofs.RowSteps.{copied_at, row_seen}
use Rattle.mp4_diff.specs.RowChanges.{partner_row}
use Rattle.mp4_diff.specs.Rows.{rows_of}
use Rattle.mp4_diff.proofs.row_changes.row_at.Goals as goal

pub returns-in-Some : goal.returns-in-Some
returns-in-Some c =
    row_seen c.args.rows.now c.in-Some.number c.get.result
    (copied_at c.args.rows.now c.in-Some.number c.get.result c.get.ensures.lookup)
    ∙ sym (ap (λ (n : Option ℕ). partner_row n (rows_of c.args.rows.now)) c.in-Some.is)
