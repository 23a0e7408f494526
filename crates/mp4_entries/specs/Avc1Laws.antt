-- The laws of avc1 follow from those of avcC.
use Rattle.std.proofs.Common.{refl, lit<}
use Rattle.mp4_frame.specs.Format.{IsBox}
use Rattle.mp4_frame.specs.declared.box_type.BoxType.TheVariants as names
use Rattle.mp4_frame.specs.declared.codes.TheConstants as codes
use Rattle.mp4_entries.specs.Avcc.{reads_avcc}
use Rattle.mp4_entries.specs.AvccLaws.{laws_avcc}
use Rattle.mp4_entries.specs.VisualLaws.{laws_visual}
use Rattle.mp4_entries.specs.Avc1.{visual_avc1, avc1_of, reads_avc1, format_avc1}

pub laws_avc1 : IsBox reads_avc1 format_avc1
unfolding reads_avc1
laws_avc1 = laws_visual laws_avcc codes.AVCC (λ c. refl) names.Avc1Box (lit< tt) visual_avc1 (λ v. v.avcc) avc1_of
    (λ s c. refl) (λ s c. refl)
