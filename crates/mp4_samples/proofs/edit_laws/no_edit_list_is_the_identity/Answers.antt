use Rattle.mp4_samples.proofs.EditOrder.{identity}
use Rattle.mp4_samples.proofs.edit_laws.no_edit_list_is_the_identity.Goals as goal

pub returns : goal.returns
returns c = identity
