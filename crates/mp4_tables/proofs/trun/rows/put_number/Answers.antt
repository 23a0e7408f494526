use Rattle.mp4_tables.proofs.TrunRows.{nothing_put_at}
use Rattle.mp4_tables.proofs.trun.rows.put_number.Goals as goal

pub returns-else-is_flagged-clause-put : goal.returns-else-is_flagged-clause-put
returns-else-is_flagged-clause-put c =
    nothing_put_at _ c.args.i c.args.numbers.now _ c.if-is_flagged.false c.requires.has
