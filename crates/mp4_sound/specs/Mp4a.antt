-- mp4a, the sample entry of MPEG-4 audio (ISO/IEC 14496-14, 5.6; ISO/IEC 14496-12, 12.2.3). Its fields, by offset and
-- bytes:
-- - 8, 6 bytes: reserved
-- - 14, 2 bytes: the data reference index
-- - 16, 8 bytes: reserved
-- - 24, 2 bytes each: the channel count and the sample size
-- - 28, 4 bytes: reserved
-- - 32, 4 bytes: the sample rate
-- - 36: another box, if the size is more than 36. An esds is read; others are skipped.
-- Reserved bytes must be present, and are written as 0. The entry has at least 36 bytes, whatever its size is.
use Rattle.std.specs.Prelude.{ℕ, ◌+◌, ◌%◌, ◌^◌, List, [], ◌∷◌, ◌++◌, Option, Some}
use Rattle.mp4_frame.specs.Bytes.{number, bytes_of_fields, FieldsFit}
use Rattle.mp4_frame.specs.Format.{Format}
use Rattle.mp4_frame.specs.OneChild.{optional_child}
use Rattle.mp4_frame.specs.OptionalChild.{size_optional, WritableOptional, bytes_optional, normal_optional}
use Rattle.mp4_frame.specs.Reading.{Reading, ◌>>=◌, expect_bytes, done}
use Rattle.mp4_frame.specs.declared.box_type.BoxType.TheVariants as names
use Rattle.mp4_frame.specs.declared.codes.TheConstants as codes
use Rattle.mp4_media.specs.ChannelConfig.{number_channel_config}
use Rattle.mp4_media.specs.FixedPoint.{scaled}
use Rattle.mp4_media.specs.SampleFreqIndex.{freq_sample_freq_index}
use Rattle.mp4_media.specs.declared.aac_config.AacConfig.{AacConfig}
use Rattle.mp4_sound.specs.Esds.{esds_of, default_esds, reads_esds, format_esds}
use Rattle.mp4_sound.specs.declared.esds.EsdsBox.{EsdsBox}
use Rattle.mp4_sound.specs.declared.mp4a.Mp4aBox.{Mp4aBox}

-- the value, where `at o w` is the number of w bytes at offset o
abbrev pub value_mp4a : (ℕ → ℕ → ℕ) → Option EsdsBox → Mp4aBox
value_mp4a at esds =
    record {
      data_reference_index = at 14 2;
      channelcount = at 24 2;
      samplesize = at 26 2;
      samplerate = at 32 4;
      esds = esds;
    }

unfoldable pub reads_mp4a : List ℕ → ℕ → ℕ → Reading Mp4aBox
reads_mp4a bytes start size = do
  _ ← expect_bytes bytes 8 28
  esds ← optional_child reads_esds codes.ESDS bytes start size 36
  done (value_mp4a (number bytes) esds)

abbrev pub size_mp4a : Mp4aBox → ℕ
size_mp4a v = 36 + size_optional format_esds v.esds

abbrev pub fields_mp4a : Mp4aBox → List (ℕ × ℕ)
fields_mp4a v =
    (4, size_mp4a v) ∷ (4, codes.MP4A) ∷ (6, 0) ∷ (2, v.data_reference_index) ∷ (8, 0)
    ∷ (2, v.channelcount) ∷ (2, v.samplesize) ∷ (4, 0) ∷ (4, v.samplerate) ∷ []

-- the sample entry made from a configuration, with the low 16 bits of the frequency
abbrev pub mp4a_of : AacConfig → Mp4aBox
mp4a_of config = record {
  data_reference_index = 1;
  channelcount = number_channel_config config.chan_conf;
  samplesize = 16;
  samplerate = scaled 65536 (freq_sample_freq_index config.freq_index % 2 ^ 16);
  esds = Some (esds_of config);
}

abbrev pub default_mp4a : Mp4aBox
default_mp4a = record {
  data_reference_index = 0;
  channelcount = 2;
  samplesize = 16;
  samplerate = scaled 65536 48000;
  esds = Some default_esds;
}

-- Every number fits its field, and the descriptors can be written.
pub record WritableMp4a (v : Mp4aBox) : Type 0 where
  pub fit : FieldsFit (fields_mp4a v)
  pub esds : WritableOptional format_esds v.esds

unfoldable pub bytes_mp4a : Mp4aBox → List ℕ
bytes_mp4a v = bytes_of_fields (fields_mp4a v) ++ bytes_optional format_esds v.esds

abbrev pub normal_mp4a : Mp4aBox → Mp4aBox
normal_mp4a v = record v { esds = normal_optional format_esds v.esds }

abbrev pub format_mp4a : Format Mp4aBox
format_mp4a = record
    { name = λ _. names.Mp4aBox; size = size_mp4a; Writable = WritableMp4a; bytes = bytes_mp4a; normal = normal_mp4a }
