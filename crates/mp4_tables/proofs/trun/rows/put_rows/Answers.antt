use Rattle.std.proofs.Common.{sym, ◌∙◌, ap}
use Rattle.mp4_tables.specs.TrunRows.{row_length}
use Rattle.mp4_tables.proofs.TrunRows.{no_bytes, nothing_put}
use Rattle.mp4_tables.proofs.trun.rows.put_rows.Goals as goal

pub returns-in-false-false-false-false : goal.returns-in-false-false-false-false
returns-in-false-false-false-false c =
    let arm = c.in-false-false-false-false in
    let none = no_bytes c.of-has.result arm.is-0 arm.is-1 arm.is-2 arm.is-3 in
    nothing_put c.args.trun.now c.requires.listed c.args.out.now c.args.at (sym (ap row_length c.of-has.ensures) ∙ none)
    c.requires.room
