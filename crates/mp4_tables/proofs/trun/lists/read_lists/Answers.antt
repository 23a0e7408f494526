use Rattle.std.proofs.Common.{ap, ◌∙◌}
use Rattle.mp4_tables.specs.TrunRows.{row_flags, row_length}
use Rattle.mp4_tables.proofs.TrunRows.{no_lists}
use Rattle.mp4_tables.proofs.trun.lists.read_lists.Goals as goal

pub returns-else-length-eq16 : goal.returns-else-length-eq16
returns-else-length-eq16 c =
    let is = c.row_length-length.ensures.length ∙ ap row_length c.of.ensures in
    let none = no_lists c.args.bytes.now c.args.size c.args.at c.args.count (row_flags c.args.flags)
    (λ e. c.if-length-eq4.false (is ∙ e)) (λ e. c.if-length-eq8.false (is ∙ e)) (λ e. c.if-length-eq12.false (is ∙ e))
    (λ e. c.if-length-eq16.false (is ∙ e)) in
    rw (
      c.new.ensures,
      c.new-else-length-eq16.ensures,
      c.new-else-length-eq16-2.ensures,
      c.new-else-length-eq16-3.ensures,
    ) none
