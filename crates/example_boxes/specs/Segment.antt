-- A box of a segment: a subsegment index, or one of three boxes of a fragment.
use Rattle.mp4_stream.specs.Author.{Shape, OwnLayout, reads_declared, format_declared}
use Rattle.mp4_stream.specs.Author.{BoxType, Known, Unknown, Is, kind, of_code, Inside, boxed}
use Rattle.mp4_stream.specs.Author.names
use Rattle.mp4_stream.specs.Boxes.{reads_mfhd, format_mfhd, reads_tfdt, format_tfdt, reads_trun, format_trun}
use Rattle.example_boxes.specs.declared.ssix.Ssix.{Ssix}
use Rattle.example_boxes.specs.declared.ssix.TheConstants.{SSIX}
use Rattle.example_boxes.specs.declared.segment.SegmentBox.{SegmentBox}
use Rattle.example_boxes.specs.declared.segment.SegmentBox.TheVariants as segment

module _ {A : Type 0} (s : Shape A) (ssix : OwnLayout SSIX A Ssix) where
  -- the type of the boxes with a name
  abbrev pub kinds : BoxType → Known SegmentBox
  kinds (names.UnknownBox code) =
      of_code SSIX (kind (reads_declared s ssix) (format_declared s ssix) segment.SsixBox) code
  kinds names.MfhdBox = Is (kind reads_mfhd format_mfhd segment.MfhdBox)
  kinds names.TfdtBox = Is (kind reads_tfdt format_tfdt segment.TfdtBox)
  kinds names.TrunBox = Is (kind reads_trun format_trun segment.TrunBox)
  kinds _ = Unknown

  -- the box inside and its format
  abbrev pub inside : SegmentBox → Inside SegmentBox
  inside (segment.SsixBox b) = boxed (format_declared s ssix) segment.SsixBox b
  inside (segment.MfhdBox b) = boxed format_mfhd segment.MfhdBox b
  inside (segment.TfdtBox b) = boxed format_tfdt segment.TfdtBox b
  inside (segment.TrunBox b) = boxed format_trun segment.TrunBox b
