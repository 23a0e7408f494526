-- The fields of a sample entry of MPEG-4 audio and of its descriptors, as rows have them: a line for each.
use Rattle.std.specs.Prelude.{List, [], ◌∷◌}
use Rattle.mp4_sound.specs.declared.decoder_config.DecoderConfigDescriptor.{DecoderConfigDescriptor}
use Rattle.mp4_sound.specs.declared.decoder_specific.DecoderSpecificDescriptor.{DecoderSpecificDescriptor}
use Rattle.mp4_sound.specs.declared.es_descriptor.ESDescriptor.{ESDescriptor}
use Rattle.mp4_sound.specs.declared.mp4a.Mp4aBox.{Mp4aBox}
use Rattle.mp4_show.specs.Row.{Part, number, number_if}

abbrev pub specific_row : DecoderSpecificDescriptor → List Part
specific_row b =
    number b.profile
    ∷ number b.freq_index
    ∷ number_if b.sample_rate
    ∷ number b.chan_conf
    ∷ []

-- the fields before the descriptor inside
abbrev pub config_row : DecoderConfigDescriptor → List Part
config_row b =
    number b.object_type_indication
    ∷ number b.stream_type
    ∷ number b.up_stream
    ∷ number b.buffer_size_db
    ∷ number b.max_bitrate
    ∷ number b.avg_bitrate
    ∷ []

abbrev pub stream_row : ESDescriptor → List Part
stream_row b =
    number b.es_id
    ∷ []

-- the fields before the descriptors
abbrev pub mp4a_row : Mp4aBox → List Part
mp4a_row b =
    number b.data_reference_index
    ∷ number b.channelcount
    ∷ number b.samplesize
    ∷ number b.samplerate
    ∷ []
