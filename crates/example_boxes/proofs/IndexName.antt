-- A name that a segment knows is that of an index, unless it is that of one of the codec's three boxes.
use Rattle.std.proofs.Common.{◌≡◌, ◌==◌, Bool, true, false, refl}
use Rattle.mp4_stream.specs.Author.{Shape, OwnLayout, reads_declared, format_declared}
use Rattle.mp4_stream.specs.Author.{BoxType, Kind, Is, kind, is_known, known_if}
use Rattle.mp4_stream.specs.Author.names
use Rattle.example_boxes.specs.Segment.{kinds}
use Rattle.example_boxes.specs.declared.ssix.Ssix.{Ssix}
use Rattle.example_boxes.specs.declared.ssix.TheConstants.{SSIX}
use Rattle.example_boxes.specs.declared.segment.SegmentBox.{SegmentBox}
use Rattle.example_boxes.specs.declared.segment.SegmentBox.TheVariants as segment

module _ {A : Type 0} (s : Shape A) (ssix : OwnLayout SSIX A Ssix) where
  abbrev pub index : Kind SegmentBox
  index = kind (reads_declared s ssix) (format_declared s ssix) segment.SsixBox

  by_code : (is_index : Bool) → is_known (known_if is_index index) ≡ true → known_if is_index index ≡ Is index
  by_code true known = refl
  by_code false known = absurd cc

  pub index_name : (name : BoxType) → is_known (kinds s ssix name) ≡ true → (name ≡ names.MfhdBox → ⊥)
      → (name ≡ names.TfdtBox → ⊥) → (name ≡ names.TrunBox → ⊥) → kinds s ssix name ≡ Is index
  index_name (names.UnknownBox code) known mfhd tfdt trun = by_code (code == SSIX) known
  index_name names.MfhdBox known mfhd tfdt trun = absurd (mfhd refl)
  index_name names.TfdtBox known mfhd tfdt trun = absurd (tfdt refl)
  index_name names.TrunBox known mfhd tfdt trun = absurd (trun refl)
  index_name _ known mfhd tfdt trun = absurd cc
