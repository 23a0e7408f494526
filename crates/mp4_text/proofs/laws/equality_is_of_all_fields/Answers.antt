use Rattle.mp4_text.proofs.Equality.{ftyp_equality, emsg_equality}
use Rattle.mp4_text.proofs.laws.equality_is_of_all_fields.Goals as goal

pub returns-clause-ftyp : goal.returns-clause-ftyp
returns-clause-ftyp c = ftyp_equality

pub returns-clause-emsg : goal.returns-clause-emsg
returns-clause-emsg c = emsg_equality
