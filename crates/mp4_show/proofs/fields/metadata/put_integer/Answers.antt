use Rattle.mp4_show.proofs.fields.metadata.put_integer.Goals as goal

pub returns-in-None : goal.returns-in-None
returns-in-None g c = rw c.in-None.is c.field.ensures
