-- esds, the elementary stream descriptor box (ISO/IEC 14496-14, 5.6). Its fields, by offset and bytes:
-- - 8, 1 byte and 3 bytes: the version and the flags
-- - 12: descriptors. Elementary stream descriptors (tag 3) are read, and the last one is kept. A descriptor with
--   another tag ends the reading.
-- Each header begins where the content before it ended: nothing is skipped up to a declared end.
use Rattle.std.specs.Prelude.{ℕ, ◌+◌, ◌^◌, ◌==◌, nat_lt, max, List, ◌++◌, drop, length, Option, Some, None}
use Rattle.std.specs.Prelude.{if◌then◌else◌}
use Rattle.mp4_frame.specs.Bytes.{number, bytes_of_fields, FieldsFit, full_box}
use Rattle.mp4_frame.specs.Format.{Format}
use Rattle.mp4_frame.specs.Reading.{Reading, Invalid, expect_bytes, faults}
use Rattle.mp4_frame.specs.declared.box_type.BoxType.TheVariants as names
use Rattle.mp4_frame.specs.declared.codes.TheConstants as codes
use Rattle.mp4_media.specs.declared.aac_config.AacConfig.{AacConfig}
use Rattle.mp4_sound.specs.Counted.{Counted, ◌>>=◌, no_header, value, uncounted}
use Rattle.mp4_sound.specs.DecoderSpecific.{field_decoder_specific, WritableDecoderSpecific}
use Rattle.mp4_sound.specs.EsDescriptor.{es_descriptor_of, default_es_descriptor, es_descriptor, fields_es_descriptor}
use Rattle.mp4_sound.specs.EsDescriptor.{normal_es_descriptor}
use Rattle.mp4_sound.specs.Walk.{walk}
use Rattle.mp4_sound.specs.declared.descriptor_header.DescriptorHeader.{DescriptorHeader}
use Rattle.mp4_sound.specs.declared.es_descriptor.ESDescriptor.{ESDescriptor}
use Rattle.mp4_sound.specs.declared.esds.EsdsBox.{EsdsBox}

-- the box made from a configuration
abbrev pub esds_of : AacConfig → EsdsBox
esds_of config = record { version = 0; flags = 0; es_desc = es_descriptor_of config }

abbrev pub default_esds : EsdsBox
default_esds = record { version = 0; flags = 0; es_desc = default_es_descriptor }

-- the reading of a descriptor's content in a box up to the bound
unfoldable pub in_esds : List ℕ → ℕ → DescriptorHeader → Counted (Option ESDescriptor × ℕ)
in_esds bytes bound d = if d.tag == 3 then es_descriptor bytes d.content d.length else value (None, max bound d.content)

-- the last elementary stream descriptor
unfoldable pub last_es_descriptor : List ℕ → ℕ → Counted (Option ESDescriptor)
last_es_descriptor bytes size = do
  _ ← no_header (expect_bytes bytes 8 4)
  found ← walk in_esds bytes size (length bytes) 12
  value (found.0)

-- There must be an elementary stream descriptor.
abbrev pub with_es_descriptor : (ℕ → ℕ → ℕ) → Option ESDescriptor → Counted EsdsBox
with_es_descriptor at (Some es_desc) = value (record { version = at 8 1; flags = at 9 3; es_desc = es_desc })
with_es_descriptor at None = no_header (faults Invalid)

-- the reading of the content of a box, with the number of whole headers; the bytes begin with the box
unfoldable pub counted_esds : List ℕ → ℕ → Counted EsdsBox
counted_esds bytes size = do
  found ← last_es_descriptor bytes size
  with_es_descriptor (number bytes) found

unfoldable pub reads_esds : List ℕ → ℕ → ℕ → Reading EsdsBox
reads_esds bytes start size = uncounted (counted_esds bytes size)

-- the number of whole headers, up to the first fault, in a box of this start and size in a buffer
unfoldable pub headers_esds : List ℕ → ℕ → ℕ → ℕ
headers_esds bytes start size =
    if nat_lt (start + size) (2 ^ 64) then (counted_esds (drop start bytes) size).headers else 0

-- The audio configuration has 2, 3, 5 or 6 bytes.
abbrev pub size_esds : EsdsBox → ℕ
size_esds v = 37 + (field_decoder_specific v.es_desc.dec_config.dec_specific).0

abbrev pub fields_esds : EsdsBox → List (ℕ × ℕ)
fields_esds v = full_box (size_esds v) codes.ESDS v.version v.flags ++ fields_es_descriptor v.es_desc

-- Every number fits its field, so the stream type is below 64.
pub record WritableEsds (v : EsdsBox) : Type 0 where
  pub fit : FieldsFit (fields_esds v)
  pub specific : WritableDecoderSpecific v.es_desc.dec_config.dec_specific

unfoldable pub bytes_esds : EsdsBox → List ℕ
bytes_esds v = bytes_of_fields (fields_esds v)

abbrev pub normal_esds : EsdsBox → EsdsBox
normal_esds v = record v { es_desc = normal_es_descriptor v.es_desc }

abbrev pub format_esds : Format EsdsBox
format_esds = record
    { name = λ _. names.EsdsBox; size = size_esds; Writable = WritableEsds; bytes = bytes_esds; normal = normal_esds }
