-- The decoder specific descriptor of MPEG-4 audio (tag 5): the first fields of an audio configuration (ISO/IEC 14496-3,
-- 1.6.2.1). Its fields, in this order, by bits:
-- - 5 bits: the audio object type
-- - 6 bits, only if that is 31: the audio object type minus 32
-- - 4 bits: the frequency index
-- - 24 bits, only if that is 15: the sampling rate
-- - 4 bits: the channel configuration
-- They take 2, 3, 5 or 6 bytes, whatever length is declared. The bits after them are ignored, and written as 0.
use Rattle.std.specs.Prelude.{◌≡◌, ℕ, ◌+◌, ◌-◌, ◌*◌, ◌/◌, ◌%◌, ◌^◌, ◌<◌, ◌==◌, nat_lt, List, Option, Some, None}
use Rattle.std.specs.Prelude.{if◌then◌else◌}
use Rattle.std.specs.Option.{unwrap_or}
use Rattle.mp4_frame.specs.Bytes.{number}
use Rattle.mp4_frame.specs.Reading.{expect_bytes}
use Rattle.mp4_media.specs.AudioObjectType.{number_audio_object_type}
use Rattle.mp4_media.specs.ChannelConfig.{number_channel_config}
use Rattle.mp4_media.specs.SampleFreqIndex.{number_sample_freq_index}
use Rattle.mp4_media.specs.declared.aac_config.AacConfig.{AacConfig}
use Rattle.mp4_sound.specs.Counted.{Counted, ◌>>=◌, no_header, value}
use Rattle.mp4_sound.specs.declared.decoder_specific.DecoderSpecificDescriptor.{DecoderSpecificDescriptor}

-- the descriptor made from a configuration
abbrev pub decoder_specific_of : AacConfig → DecoderSpecificDescriptor
decoder_specific_of config = record {
  profile = number_audio_object_type config.profile;
  freq_index = number_sample_freq_index config.freq_index;
  sample_rate = None;
  chan_conf = number_channel_config config.chan_conf;
}

abbrev pub default_decoder_specific : DecoderSpecificDescriptor
default_decoder_specific = record { profile = 0; freq_index = 0; sample_rate = None; chan_conf = 0 }

-- the w bits of n above its k lowest bits
abbrev pub bits : ℕ → ℕ → ℕ → ℕ
bits n k w = n / 2 ^ k % 2 ^ w

-- the value of 2 bytes, as a number n
abbrev pub plain_type : ℕ → DecoderSpecificDescriptor
plain_type n = record { profile = bits n 11 5; freq_index = bits n 7 4; sample_rate = None; chan_conf = bits n 3 4 }

-- the value of 3 bytes, which have an audio object type of 11 bits
abbrev pub long_type : ℕ → DecoderSpecificDescriptor
long_type n = record { profile = 32 + bits n 13 6; freq_index = bits n 9 4; sample_rate = None; chan_conf = bits n 5 4 }

-- the value of 5 bytes, which have a sampling rate
abbrev pub plain_type_and_rate : ℕ → DecoderSpecificDescriptor
plain_type_and_rate n =
    record { profile = bits n 35 5; freq_index = 15; sample_rate = Some (bits n 7 24); chan_conf = bits n 3 4 }

-- the value of 6 bytes, which have both
abbrev pub long_type_and_rate : ℕ → DecoderSpecificDescriptor
long_type_and_rate n =
    record { profile = 32 + bits n 37 6; freq_index = 15; sample_rate = Some (bits n 9 24); chan_conf = bits n 5 4 }

-- the reading of w bytes at offset o in one of these forms, and the offset after them
abbrev pub in_form : List ℕ → ℕ → ℕ → (ℕ → DecoderSpecificDescriptor) → Counted (Option DecoderSpecificDescriptor × ℕ)
in_form bytes o w form = do
  _ ← no_header (expect_bytes bytes o w)
  value (Some (form (number bytes o w)), o + w)

-- The first 2 bytes decide the form.
unfoldable pub decoder_specific : List ℕ → ℕ → Counted (Option DecoderSpecificDescriptor × ℕ)
decoder_specific bytes o = do
  _ ← no_header (expect_bytes bytes o 2)
  if bits (number bytes o 2) 11 5 == 31 then
      (if bits (number bytes o 2) 1 4 == 15 then in_form bytes o 6 long_type_and_rate else in_form bytes o 3 long_type)
      else (if bits (number bytes o 2) 7 4 == 15 then in_form bytes o 5 plain_type_and_rate else in_form bytes o 2
      plain_type)

-- the numbers in 2, 3, 5 and 6 bytes
abbrev pub number_plain_type : DecoderSpecificDescriptor → ℕ
number_plain_type v = v.profile * 2 ^ 11 + v.freq_index * 2 ^ 7 + v.chan_conf * 2 ^ 3

abbrev pub number_long_type : DecoderSpecificDescriptor → ℕ
number_long_type v = 31 * 2 ^ 19 + (v.profile - 32) * 2 ^ 13 + v.freq_index * 2 ^ 9 + v.chan_conf * 2 ^ 5

abbrev pub number_plain_type_and_rate : DecoderSpecificDescriptor → ℕ
number_plain_type_and_rate v =
    v.profile * 2 ^ 35 + 15 * 2 ^ 31 + unwrap_or v.sample_rate 0 * 2 ^ 7 + v.chan_conf * 2 ^ 3

abbrev pub number_long_type_and_rate : DecoderSpecificDescriptor → ℕ
number_long_type_and_rate v =
    31 * 2 ^ 43 + (v.profile - 32) * 2 ^ 37 + 15 * 2 ^ 33 + unwrap_or v.sample_rate 0 * 2 ^ 9 + v.chan_conf * 2 ^ 5

-- the field of a value: its number of bytes, and the number in them
abbrev pub field_decoder_specific : DecoderSpecificDescriptor → ℕ × ℕ
field_decoder_specific v =
    if nat_lt 31 v.profile then
    (if v.freq_index == 15 then (6, number_long_type_and_rate v) else (3, number_long_type v)) else
    (if v.freq_index == 15 then (5, number_plain_type_and_rate v) else (2, number_plain_type v))

-- There is a rate if and only if the index is 15.
abbrev pub RateFits : ℕ → Option ℕ → Type 0
RateFits index (Some rate) = (index ≡ 15) × (rate < 2 ^ 24)
RateFits index None = ¬ (index ≡ 15)

pub record WritableDecoderSpecific (v : DecoderSpecificDescriptor) : Type 0 where
  pub profile : v.profile < 96
  pub no_escape : ¬ (v.profile ≡ 31)
  pub freq_index : v.freq_index < 16
  pub sample_rate : RateFits v.freq_index v.sample_rate
  pub chan_conf : v.chan_conf < 16
