-- The structs for C of an esds and an mp4a, and the boxes of such structs.
use Rattle.std.specs.Prelude.{ℕ, ◌==◌, Some, None, unwrap_or, if◌then◌else◌}
use Rattle.std.specs.declared.option.Option.{Option}
use Rattle.mp4_c_boxes.specs.declared.audio.Esds.{Esds}
use Rattle.mp4_sound.specs.declared.decoder_config.DecoderConfigDescriptor.{DecoderConfigDescriptor}
use Rattle.mp4_sound.specs.declared.decoder_specific.DecoderSpecificDescriptor.{DecoderSpecificDescriptor}
use Rattle.mp4_sound.specs.declared.esds.EsdsBox.{EsdsBox}
use Rattle.mp4_c_boxes.specs.declared.audio.Mp4a.{Mp4a}
use Rattle.mp4_sound.specs.declared.mp4a.Mp4aBox.{Mp4aBox}

abbrev pub fields_esds : EsdsBox → Esds
fields_esds v = record {
  flags = v.flags;
  buffer_size_db = v.es_desc.dec_config.buffer_size_db;
  max_bitrate = v.es_desc.dec_config.max_bitrate;
  avg_bitrate = v.es_desc.dec_config.avg_bitrate;
  sample_rate = unwrap_or v.es_desc.dec_config.dec_specific.sample_rate 0;
  es_id = v.es_desc.es_id;
  version = v.version;
  object_type_indication = v.es_desc.dec_config.object_type_indication;
  stream_type = v.es_desc.dec_config.stream_type;
  up_stream = v.es_desc.dec_config.up_stream;
  profile = v.es_desc.dec_config.dec_specific.profile;
  freq_index = v.es_desc.dec_config.dec_specific.freq_index;
  chan_conf = v.es_desc.dec_config.dec_specific.chan_conf;
}

abbrev pub no_esds : Esds
no_esds = record {
  flags = 0;
  buffer_size_db = 0;
  max_bitrate = 0;
  avg_bitrate = 0;
  sample_rate = 0;
  es_id = 0;
  version = 0;
  object_type_indication = 0;
  stream_type = 0;
  up_stream = 0;
  profile = 0;
  freq_index = 0;
  chan_conf = 0;
}

-- the sampling frequency, which the bytes have only if its index is 15
abbrev pub rate_if : ℕ → ℕ → Option ℕ
rate_if freq_index sample_rate = if freq_index == 15 then Some sample_rate else None

-- the box of this struct
abbrev pub esds_of : Esds → EsdsBox
esds_of f = record {
  version = f.version;
  flags = f.flags;
  es_desc = record {
    es_id = f.es_id;
    dec_config = record {
      object_type_indication = f.object_type_indication;
      stream_type = f.stream_type;
      up_stream = f.up_stream;
      buffer_size_db = f.buffer_size_db;
      max_bitrate = f.max_bitrate;
      avg_bitrate = f.avg_bitrate;
      dec_specific = record {
        profile = f.profile;
        freq_index = f.freq_index;
        sample_rate = rate_if f.freq_index f.sample_rate;
        chan_conf = f.chan_conf;
      };
    };
    sl_config = record {};
  };
}

abbrev pub told_mp4a_with : Mp4aBox → Option EsdsBox → Mp4a
told_mp4a_with v (Some esds) = record {
  esds = fields_esds esds;
  samplerate = v.samplerate;
  data_reference_index = v.data_reference_index;
  channelcount = v.channelcount;
  samplesize = v.samplesize;
  has_esds = 1;
}
told_mp4a_with v None = record {
  esds = no_esds;
  samplerate = v.samplerate;
  data_reference_index = v.data_reference_index;
  channelcount = v.channelcount;
  samplesize = v.samplesize;
  has_esds = 0;
}

abbrev pub fields_mp4a : Mp4aBox → Mp4a
fields_mp4a v = told_mp4a_with v v.esds

abbrev pub no_mp4a : Mp4a
no_mp4a = record {
  esds = no_esds;
  samplerate = 0;
  data_reference_index = 0;
  channelcount = 0;
  samplesize = 0;
  has_esds = 0;
}

-- the box of this struct
abbrev pub mp4a_of : Mp4a → Mp4aBox
mp4a_of f = record {
  data_reference_index = f.data_reference_index;
  channelcount = f.channelcount;
  samplesize = f.samplesize;
  samplerate = f.samplerate;
  esds = if f.has_esds == 0 then None else Some (esds_of f.esds);
}
