-- The elementary stream descriptor (tag 3; ISO/IEC 14496-1, 7.2.6.5). Its fields, by offset in the content and bytes:
-- - 0, 2 bytes: the number of the stream
-- - 2, 1 byte: ignored, and written as 0
-- - 3: descriptors. A decoder configuration (tag 4) is read. A sync layer configuration (tag 6) has 1 byte of content,
--   whatever its length. Others are gaps of their declared lengths.
use Rattle.std.specs.Prelude.{ℕ, ◌+◌, ◌==◌, List, [], ◌∷◌, ◌++◌, length, Option, Some, None, if◌then◌else◌}
use Rattle.std.specs.Option.{unwrap_or}
use Rattle.mp4_frame.specs.Bytes.{number}
use Rattle.mp4_frame.specs.Reading.{expect_bytes}
use Rattle.mp4_media.specs.declared.aac_config.AacConfig.{AacConfig}
use Rattle.mp4_sound.specs.Counted.{Counted, ◌>>=◌, no_header, value}
use Rattle.mp4_sound.specs.DecoderConfig.{decoder_config_of, default_decoder_config, decoder_config}
use Rattle.mp4_sound.specs.DecoderConfig.{fields_decoder_config, normal_decoder_config}
use Rattle.mp4_sound.specs.DecoderSpecific.{field_decoder_specific}
use Rattle.mp4_sound.specs.Walk.{walk}
use Rattle.mp4_sound.specs.declared.descriptor_header.DescriptorHeader.{DescriptorHeader}
use Rattle.mp4_sound.specs.declared.decoder_config.DecoderConfigDescriptor.{DecoderConfigDescriptor}
use Rattle.mp4_sound.specs.declared.es_descriptor.ESDescriptor.{ESDescriptor}

-- the descriptor made from a configuration, for stream 1
abbrev pub es_descriptor_of : AacConfig → ESDescriptor
es_descriptor_of config = record { es_id = 1; dec_config = decoder_config_of config; sl_config = record {} }

abbrev pub default_es_descriptor : ESDescriptor
default_es_descriptor = record { es_id = 0; dec_config = default_decoder_config; sl_config = record {} }

-- the reading of a descriptor's content inside an elementary stream descriptor
unfoldable pub in_es_descriptor : List ℕ → ℕ → DescriptorHeader → Counted (Option DecoderConfigDescriptor × ℕ)
in_es_descriptor bytes bound d =
    if d.tag == 4 then decoder_config bytes d.content d.length else
    if d.tag == 6 then (no_header (expect_bytes bytes d.content 1) >>= λ _. value (None, d.content + 1)) else
    value (None, d.content + d.length)

-- the value with the fields at offset o, where `at o w` is the number of w bytes at offset o
abbrev pub value_es_descriptor : (ℕ → ℕ → ℕ) → ℕ → DecoderConfigDescriptor → ESDescriptor
value_es_descriptor at o dec_config = record { es_id = at o 2; dec_config = dec_config; sl_config = record {} }

-- The last decoder configuration is kept. Without one, the value has the default.
abbrev pub es_descriptor_with : List ℕ → ℕ → Option DecoderConfigDescriptor × ℕ → Option ESDescriptor × ℕ
es_descriptor_with bytes o inner =
    (Some (value_es_descriptor (number bytes) o (unwrap_or inner.0 default_decoder_config)), inner.1)

-- the reading of a content of this length at offset o
unfoldable pub es_descriptor : List ℕ → ℕ → ℕ → Counted (Option ESDescriptor × ℕ)
es_descriptor bytes o long = do
  _ ← no_header (expect_bytes bytes o 3)
  inner ← walk in_es_descriptor bytes (o + long) (length bytes) (o + 3)
  value (es_descriptor_with bytes o inner)

-- the header and the fields, and those of the descriptors inside
abbrev pub fields_es_descriptor : ESDescriptor → List (ℕ × ℕ)
fields_es_descriptor v =
    let n = (field_decoder_specific v.dec_config.dec_specific).0 in
    (1, 3) ∷ (1, 23 + n) ∷ (2, v.es_id) ∷ (1, 0) ∷ fields_decoder_config v.dec_config ++ (1, 6) ∷ (1, 0) ∷ (1, 0) ∷ []

abbrev pub normal_es_descriptor : ESDescriptor → ESDescriptor
normal_es_descriptor v = record v { dec_config = normal_decoder_config v.dec_config }
