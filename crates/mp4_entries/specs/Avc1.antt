-- avc1, the sample entry of AVC video (ISO/IEC 14496-15, 5.4.2): a visual sample entry with the child avcC
use Rattle.std.specs.Prelude.{ℕ, List}
use Rattle.mp4_frame.specs.Format.{Format}
use Rattle.mp4_frame.specs.Reading.{Reading}
use Rattle.mp4_frame.specs.declared.box_type.BoxType.TheVariants as names
use Rattle.mp4_frame.specs.declared.codes.TheConstants as codes
use Rattle.mp4_media.specs.declared.avc_config.AvcConfig.{AvcConfig}
use Rattle.mp4_entries.specs.Avcc.{made_avcc, reads_avcc, format_avcc}
use Rattle.mp4_entries.specs.Visual.{visual_of, reads_visual, size_visual, format_visual}
use Rattle.mp4_entries.specs.declared.avc1.Avc1Box.{Avc1Box}
use Rattle.mp4_entries.specs.declared.avcc.AvcCBox.{AvcCBox}
use Rattle.mp4_entries.specs.declared.visual.Visual.{Visual}

-- the fields of the visual sample entry, and the box with given fields and a given child
abbrev pub visual_avc1 : Avc1Box → Visual
visual_avc1 v = record {
  data_reference_index = v.data_reference_index;
  width = v.width;
  height = v.height;
  horizresolution = v.horizresolution;
  vertresolution = v.vertresolution;
  frame_count = v.frame_count;
  depth = v.depth;
}

abbrev pub avc1_of : Visual → AvcCBox → Avc1Box
avc1_of visual avcc = record {
  data_reference_index = visual.data_reference_index;
  width = visual.width;
  height = visual.height;
  horizresolution = visual.horizresolution;
  vertresolution = visual.vertresolution;
  frame_count = visual.frame_count;
  depth = visual.depth;
  avcc = avcc;
}

unfoldable pub reads_avc1 : List ℕ → ℕ → ℕ → Reading Avc1Box
reads_avc1 bytes start size = reads_visual reads_avcc codes.AVCC avc1_of bytes start size

abbrev pub size_avc1 : Avc1Box → ℕ
size_avc1 v = size_visual format_avcc v.avcc

-- the sample entry made from a configuration
abbrev pub made_avc1 : AvcConfig → Avc1Box
made_avc1 config = avc1_of (visual_of 1 config.width config.height)
    (made_avcc config.seq_param_set config.pic_param_set)

abbrev pub format_avc1 : Format Avc1Box
format_avc1 = format_visual names.Avc1Box format_avcc visual_avc1 (λ v. v.avcc) avc1_of
