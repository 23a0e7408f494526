-- The laws of a box of a segment follow from the laws of its type.
use Rattle.std.proofs.Common.{◌≡◌, true, refl, ap}
use Rattle.mp4_stream.specs.Author.{Shape, IsShape, OwnLayout, reads_declared, format_declared, laws_declared}
use Rattle.mp4_stream.specs.Author.{kind, IsMember, member, held_inside, NamedAsRead, own_code, name_of, code_of}
use Rattle.mp4_stream.specs.Author.names
use Rattle.mp4_stream.specs.Boxes.{laws_mfhd, laws_tfdt, laws_trun}
use Rattle.example_boxes.specs.Segment.{kinds, inside}
use Rattle.example_boxes.specs.declared.ssix.Ssix.{Ssix}
use Rattle.example_boxes.specs.declared.ssix.TheConstants.{SSIX}
use Rattle.example_boxes.specs.declared.segment.SegmentBox.{SegmentBox}
use Rattle.example_boxes.specs.declared.segment.SegmentBox.TheVariants as segment

module _ {A : Type 0} (s : Shape A) (is : IsShape s) (ssix : OwnLayout SSIX A Ssix) (valid : s.valid ≡ true) where
  pub members : (v : SegmentBox) → IsMember (kinds s ssix) (held_inside (inside s ssix)) v
  unfolding name_of
  members (segment.SsixBox b) =
      member (kinds s ssix) (held_inside (inside s ssix)) segment.SsixBox (laws_declared s is ssix valid) (λ _. refl)
      (λ _. refl) (λ _. refl) b
  members (segment.MfhdBox b) =
      member (kinds s ssix) (held_inside (inside s ssix)) segment.MfhdBox laws_mfhd (λ _. refl) (λ _. refl)
      (λ _. refl) b
  members (segment.TfdtBox b) =
      member (kinds s ssix) (held_inside (inside s ssix)) segment.TfdtBox laws_tfdt (λ _. refl) (λ _. refl)
      (λ _. refl) b
  members (segment.TrunBox b) =
      member (kinds s ssix) (held_inside (inside s ssix)) segment.TrunBox laws_trun (λ _. refl) (λ _. refl)
      (λ _. refl) b

  -- a box that is read under a name has that name
  pub named : NamedAsRead (kinds s ssix) (held_inside (inside s ssix))
  unfolding name_of
  named (names.UnknownBox code) x =
      let same = own_code (held_inside (inside s ssix)) SSIX
      (kind (reads_declared s ssix) (format_declared s ssix) segment.SsixBox) (λ _. refl) code x in
      (ap code_of same, ap (kinds s ssix) same)
  named _ x = (refl, refl)
