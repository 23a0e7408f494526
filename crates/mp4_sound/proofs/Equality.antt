-- Derived equality is equality of all fields.
use Rattle.std.proofs.Common.{rules, refl}
use Rattle.mp4_frame.specs.Equality.{IsEquality}
use Rattle.mp4_frame.proofs.Equality.{by_fields, numbers, options, decider, ◌⨾◌}
use Rattle.mp4_entries.proofs.Equality.{avc1_equality, hev1_equality, vp09_equality, tx3g_equality}
use Rattle.mp4_sound.specs.contracts.decoder_specific.DecoderSpecificDescriptorPartialEq.TheImpl as specific
use Rattle.mp4_sound.specs.contracts.decoder_specific.DecoderSpecificDescriptor as specific_box
use Rattle.mp4_sound.specs.contracts.decoder_config.DecoderConfigDescriptorPartialEq.TheImpl as config
use Rattle.mp4_sound.specs.contracts.decoder_config.DecoderConfigDescriptor as config_box
use Rattle.mp4_sound.specs.contracts.sl_config.SLConfigDescriptorPartialEq.TheImpl as sl_config
use Rattle.mp4_sound.specs.contracts.es_descriptor.ESDescriptorPartialEq.TheImpl as es_descriptor
use Rattle.mp4_sound.specs.contracts.es_descriptor.ESDescriptor as es_descriptor_box
use Rattle.mp4_sound.specs.contracts.esds.EsdsBoxPartialEq.TheImpl as esds
use Rattle.mp4_sound.specs.contracts.esds.EsdsBox as esds_box
use Rattle.mp4_sound.specs.contracts.mp4a.Mp4aBoxPartialEq.TheImpl as mp4a
use Rattle.mp4_sound.specs.contracts.mp4a.Mp4aBox as mp4a_box
use Rattle.mp4_sound.specs.contracts.stsd.StsdBoxPartialEq.TheImpl as stsd
use Rattle.mp4_sound.specs.contracts.stsd.StsdBox as stsd_box

pub sl_config_equality : IsEquality (sl_config.ghosts).eq
sl_config_equality = search rules

pub specific_equality : IsEquality (specific.ghosts).eq
specific_equality = by_fields specific_box.struct specific_box.the_propositions
    (options numbers ⨾ numbers ⨾ numbers ⨾ numbers ⨾ tt) (λ x y. refl)

pub config_equality : IsEquality (config.ghosts).eq
config_equality = by_fields config_box.struct config_box.the_propositions
    (numbers ⨾ numbers ⨾ numbers ⨾ decider specific_equality ⨾ numbers ⨾ numbers ⨾ numbers ⨾ tt) (λ x y. refl)

pub es_descriptor_equality : IsEquality (es_descriptor.ghosts).eq
es_descriptor_equality =
    by_fields es_descriptor_box.struct es_descriptor_box.the_propositions
    (decider config_equality ⨾ numbers ⨾ decider sl_config_equality ⨾ tt) (λ x y. refl)

pub esds_equality : IsEquality (esds.ghosts).eq
esds_equality = by_fields esds_box.struct esds_box.the_propositions
    (numbers ⨾ decider es_descriptor_equality ⨾ numbers ⨾ tt) (λ x y. refl)

pub mp4a_equality : IsEquality (mp4a.ghosts).eq
mp4a_equality = by_fields mp4a_box.struct mp4a_box.the_propositions
    (numbers ⨾ numbers ⨾ numbers ⨾ numbers ⨾ options (decider esds_equality) ⨾ tt) (λ x y. refl)

pub stsd_equality : IsEquality (stsd.ghosts).eq
stsd_equality = by_fields stsd_box.struct stsd_box.the_propositions
    (numbers ⨾ numbers ⨾ options (decider avc1_equality) ⨾ options (decider hev1_equality) ⨾ options
    (decider vp09_equality) ⨾ options (decider mp4a_equality) ⨾ options (decider tx3g_equality) ⨾ tt) (λ x y. refl)
