use Rattle.mp4_media.proofs.Equality.{aac_equality, media_equality}
use Rattle.mp4_media.proofs.laws.equality_is_of_all_fields.Goals as goal

pub returns-clause-aac_config : goal.returns-clause-aac_config
returns-clause-aac_config c = aac_equality

pub returns-clause-media_config : goal.returns-clause-media_config
returns-clause-media_config c = media_equality
