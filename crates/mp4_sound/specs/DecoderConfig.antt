-- The decoder configuration descriptor (tag 4; ISO/IEC 14496-1, 7.2.6.6). Its fields, by offset in the content and
-- bytes:
-- - 0, 1 byte: the object type
-- - 1, 1 byte: the stream type in the 6 high bits, the direction in bit 0x02, and a reserved bit, which is written as 1
-- - 2, 3 bytes: the buffer size
-- - 5, 4 bytes each: the maximum and the average bit rate
-- - 13: descriptors. A decoder specific descriptor (tag 5) is read; others are gaps of their declared lengths.
use Rattle.std.specs.Prelude.{ℕ, ◌+◌, ◌*◌, ◌/◌, ◌%◌, ◌==◌, List, [], ◌∷◌, length, Option, Some, None, if◌then◌else◌}
use Rattle.std.specs.Option.{unwrap_or}
use Rattle.mp4_frame.specs.Bytes.{number}
use Rattle.mp4_frame.specs.Reading.{expect_bytes}
use Rattle.mp4_media.specs.declared.aac_config.AacConfig.{AacConfig}
use Rattle.mp4_sound.specs.Counted.{Counted, ◌>>=◌, no_header, value}
use Rattle.mp4_sound.specs.DecoderSpecific.{decoder_specific_of, default_decoder_specific, decoder_specific}
use Rattle.mp4_sound.specs.DecoderSpecific.{field_decoder_specific}
use Rattle.mp4_sound.specs.Walk.{walk}
use Rattle.mp4_sound.specs.declared.descriptor_header.DescriptorHeader.{DescriptorHeader}
use Rattle.mp4_sound.specs.declared.decoder_config.DecoderConfigDescriptor.{DecoderConfigDescriptor}
use Rattle.mp4_sound.specs.declared.decoder_specific.DecoderSpecificDescriptor.{DecoderSpecificDescriptor}

-- the descriptor made from a configuration: MPEG-4 audio, with its bit rate as both bit rates
abbrev pub decoder_config_of : AacConfig → DecoderConfigDescriptor
decoder_config_of config = record {
  object_type_indication = 0x40;
  stream_type = 5;
  up_stream = 0;
  buffer_size_db = 0;
  max_bitrate = config.bitrate;
  avg_bitrate = config.bitrate;
  dec_specific = decoder_specific_of config;
}

abbrev pub default_decoder_config : DecoderConfigDescriptor
default_decoder_config = record {
  object_type_indication = 0;
  stream_type = 0;
  up_stream = 0;
  buffer_size_db = 0;
  max_bitrate = 0;
  avg_bitrate = 0;
  dec_specific = default_decoder_specific;
}

-- the reading of a descriptor's content inside a decoder configuration
unfoldable pub in_decoder_config : List ℕ → ℕ → DescriptorHeader → Counted (Option DecoderSpecificDescriptor × ℕ)
in_decoder_config bytes bound d =
    if d.tag == 5 then decoder_specific bytes d.content else value (None, d.content + d.length)

-- the value with the fields at offset o, where `at o w` is the number of w bytes at offset o
abbrev pub value_decoder_config : (ℕ → ℕ → ℕ) → ℕ → DecoderSpecificDescriptor → DecoderConfigDescriptor
value_decoder_config at o dec_specific = record {
  object_type_indication = at o 1;
  stream_type = at (o + 1) 1 / 4;
  up_stream = at (o + 1) 1 / 2 % 2 * 2;
  buffer_size_db = at (o + 2) 3;
  max_bitrate = at (o + 5) 4;
  avg_bitrate = at (o + 9) 4;
  dec_specific = dec_specific;
}

-- The last decoder specific descriptor is kept. Without one, the value has the default.
abbrev pub decoder_config_with : List ℕ → ℕ → Option DecoderSpecificDescriptor × ℕ → Option DecoderConfigDescriptor × ℕ
decoder_config_with bytes o inner =
    (Some (value_decoder_config (number bytes) o (unwrap_or inner.0 default_decoder_specific)), inner.1)

-- the reading of a content of this length at offset o
unfoldable pub decoder_config : List ℕ → ℕ → ℕ → Counted (Option DecoderConfigDescriptor × ℕ)
decoder_config bytes o long = do
  _ ← no_header (expect_bytes bytes o 13)
  inner ← walk in_decoder_config bytes (o + long) (length bytes) (o + 13)
  value (decoder_config_with bytes o inner)

-- the header and the fields, and those of the descriptor inside
abbrev pub fields_decoder_config : DecoderConfigDescriptor → List (ℕ × ℕ)
fields_decoder_config v =
    let n = (field_decoder_specific v.dec_specific).0 in
    (1, 4) ∷ (1, 15 + n) ∷ (1, v.object_type_indication) ∷ (1, v.stream_type * 4 + v.up_stream / 2 % 2 * 2 + 1)
    ∷ (3, v.buffer_size_db) ∷ (4, v.max_bitrate) ∷ (4, v.avg_bitrate)
    ∷ (1, 5) ∷ (1, n) ∷ field_decoder_specific v.dec_specific ∷ []

-- Only bit 0x02 of the direction is written.
abbrev pub normal_decoder_config : DecoderConfigDescriptor → DecoderConfigDescriptor
normal_decoder_config v = record v { up_stream = v.up_stream / 2 % 2 * 2 }
