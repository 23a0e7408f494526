use Rattle.std.proofs.Common.{length, arith}
use Rattle.mp4_sound.specs.DecoderConfig.{in_decoder_config}
use Rattle.mp4_sound.specs.EsDescriptor.{in_es_descriptor}
use Rattle.mp4_sound.specs.Esds.{in_esds}
use Rattle.mp4_sound.proofs.Ends.{enough, in_config_ends, in_es_ends, in_esds_ends}
use Rattle.mp4_sound.proofs.laws.descriptors_are_read_to_their_end.Goals as goal

pub returns-clause-in_esds : goal.returns-clause-in_esds
returns-clause-in_esds c bytes bound from more some within =
    enough in_esds bytes bound (in_esds_ends bytes bound) (length bytes) more from (omega (arith, some, within))
    (omega (arith, some))

pub returns-clause-in_es_descriptor : goal.returns-clause-in_es_descriptor
returns-clause-in_es_descriptor c bytes bound from more some within =
    enough in_es_descriptor bytes bound (in_es_ends bytes bound) (length bytes) more from (omega (arith, some, within))
    (omega (arith, some))

pub returns-clause-in_decoder_config : goal.returns-clause-in_decoder_config
returns-clause-in_decoder_config c bytes bound from more some within =
    enough in_decoder_config bytes bound (in_config_ends bytes bound) (length bytes) more from
    (omega (arith, some, within)) (omega (arith, some))
