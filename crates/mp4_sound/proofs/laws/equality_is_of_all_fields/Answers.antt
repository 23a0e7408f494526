use Rattle.mp4_sound.proofs.Equality.{sl_config_equality, specific_equality, config_equality, es_descriptor_equality}
use Rattle.mp4_sound.proofs.Equality.{esds_equality, mp4a_equality, stsd_equality}
use Rattle.mp4_sound.proofs.laws.equality_is_of_all_fields.Goals as goal

pub returns-clause-esds : goal.returns-clause-esds
returns-clause-esds c = esds_equality

pub returns-clause-mp4a : goal.returns-clause-mp4a
returns-clause-mp4a c = mp4a_equality

pub returns-clause-stsd : goal.returns-clause-stsd
returns-clause-stsd c = stsd_equality

pub returns-clause-es_descriptor : goal.returns-clause-es_descriptor
returns-clause-es_descriptor c = es_descriptor_equality

pub returns-clause-decoder_config : goal.returns-clause-decoder_config
returns-clause-decoder_config c = config_equality

pub returns-clause-decoder_specific : goal.returns-clause-decoder_specific
returns-clause-decoder_specific c = specific_equality

pub returns-clause-sl_config : goal.returns-clause-sl_config
returns-clause-sl_config c = sl_config_equality
