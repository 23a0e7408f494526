-- The rules about the contents of single boxes.
use Rattle.std.specs.Prelude.{ℕ, ◌==◌, ◌&&◌, ◌||◌, not, Bool, false, List, length, Result, Ok, Err}
use Rattle.mp4_entries.specs.Boxes.{reads_avcc}
use Rattle.mp4_entries.specs.declared.avcc.AvcCBox.{AvcCBox}
use Rattle.mp4_extra_samples.specs.declared.stz2.Stz2.{Stz2}
use Rattle.mp4_frame.specs.FourCC.{four_cc_of}
use Rattle.mp4_frame.specs.Reading.{Fault}
use Rattle.mp4_frame.specs.declared.codes.TheConstants as codes
use Rattle.mp4_movie.specs.CompactSizes.{has_sizes, reads_stz2}
use Rattle.mp4_movie.specs.Reads.{own_reading}
use Rattle.mp4_walk.specs.Paths.{is_code, is_meant}
use Rattle.mp4_walk.specs.declared.tree_box.TreeBox.{TreeBox}

-- the sizes in an `stz2` have 4, 8 or 16 bits, and all are present (ISO/IEC 14496-12, 8.7.3.3)
abbrev pub is_stz2 : TreeBox → Bool
is_stz2 x = is_meant 5 (four_cc_of codes.STZ2) x && (x.context.parent == codes.STBL)

abbrev pub lists_no_sizes : Result Stz2 Fault → Bool
lists_no_sizes (Ok v) = not (has_sizes v)
lists_no_sizes (Err _) = false

abbrev pub is_unlisted : List ℕ → TreeBox → Bool
is_unlisted file x = is_stz2 x && lists_no_sizes (own_reading reads_stz2 file x).outcome

-- the parameter sets of an `avc1` or `avc2` are in its `avcC` (ISO/IEC 14496-15, 5.4.2.1)
abbrev pub is_avcc : TreeBox → Bool
is_avcc x =
    is_code (four_cc_of codes.AVCC) x.code && ((x.context.parent == codes.AVC1) || (x.context.parent == codes.AVC2))

abbrev pub has_no_sets : AvcCBox → Bool
has_no_sets v = (length v.sequence_parameter_sets == 0) || (length v.picture_parameter_sets == 0)

abbrev pub is_without_sets : Result AvcCBox Fault → Bool
is_without_sets (Ok v) = has_no_sets v
is_without_sets (Err _) = false

abbrev pub lacks_sets : List ℕ → TreeBox → Bool
lacks_sets file x = is_avcc x && is_without_sets (own_reading reads_avcc file x).outcome
