use Rattle.std.proofs.Common.{ne_eqb}
use Rattle.mp4_show.proofs.fields.metadata.put_value.Goals as goal

pub returns : goal.returns
returns g c =
    rw (ne_eqb c.args.data_type 1 c.if-data_type-eq1.false)
    (rw (ne_eqb c.args.data_type 21 c.if-data_type-eq21.false) c.field.ensures)
