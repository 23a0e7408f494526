-- A box that describes fragments (ISO/IEC 14496-12, 8.8), or an event message.
use Rattle.mp4_frame.specs.Members.{Known, Unknown, Is, kind, Inside, boxed}
use Rattle.mp4_frame.specs.declared.box_type.BoxType.{BoxType}
use Rattle.mp4_frame.specs.declared.box_type.BoxType.TheVariants as names
use Rattle.mp4_stream.specs.Boxes.{reads_mehd, format_mehd, reads_trex, format_trex, reads_mfhd, format_mfhd}
use Rattle.mp4_stream.specs.Boxes.{reads_tfhd, format_tfhd, reads_tfdt, format_tfdt, reads_trun, format_trun}
use Rattle.mp4_stream.specs.Boxes.{reads_emsg, format_emsg}
use Rattle.mp4_stream.specs.declared.fragment_box.FragmentBox.{FragmentBox}
use Rattle.mp4_stream.specs.declared.fragment_box.FragmentBox.TheVariants as fragment

-- the type of the boxes with a name
abbrev pub kinds : BoxType → Known FragmentBox
kinds names.MehdBox = Is (kind reads_mehd format_mehd fragment.MehdBox)
kinds names.TrexBox = Is (kind reads_trex format_trex fragment.TrexBox)
kinds names.MfhdBox = Is (kind reads_mfhd format_mfhd fragment.MfhdBox)
kinds names.TfhdBox = Is (kind reads_tfhd format_tfhd fragment.TfhdBox)
kinds names.TfdtBox = Is (kind reads_tfdt format_tfdt fragment.TfdtBox)
kinds names.TrunBox = Is (kind reads_trun format_trun fragment.TrunBox)
kinds names.EmsgBox = Is (kind reads_emsg format_emsg fragment.EmsgBox)
kinds _ = Unknown

-- the box inside, and its format
abbrev pub inside : FragmentBox → Inside FragmentBox
inside (fragment.MehdBox b) = boxed format_mehd fragment.MehdBox b
inside (fragment.TrexBox b) = boxed format_trex fragment.TrexBox b
inside (fragment.MfhdBox b) = boxed format_mfhd fragment.MfhdBox b
inside (fragment.TfhdBox b) = boxed format_tfhd fragment.TfhdBox b
inside (fragment.TfdtBox b) = boxed format_tfdt fragment.TfdtBox b
inside (fragment.TrunBox b) = boxed format_trun fragment.TrunBox b
inside (fragment.EmsgBox b) = boxed format_emsg fragment.EmsgBox b
