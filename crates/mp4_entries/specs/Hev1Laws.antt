-- The laws of hev1 follow from those of hvcC.
use Rattle.std.proofs.Common.{ℕ, List, refl, lit<}
use Rattle.mp4_frame.specs.Format.{IsBox}
use Rattle.mp4_frame.specs.Reading.{TakesNone}
use Rattle.mp4_frame.specs.declared.box_type.BoxType.TheVariants as names
use Rattle.mp4_frame.specs.declared.codes.TheConstants as codes
use Rattle.mp4_entries.specs.Hvcc.{reads_hvcc}
use Rattle.mp4_entries.specs.HvccLaws.{laws_hvcc, hvcc_takes_none}
use Rattle.mp4_entries.specs.VisualLaws.{laws_visual, visual_takes_none}
use Rattle.mp4_entries.specs.Hev1.{visual_hev1, hev1_of, reads_hev1, format_hev1}

pub laws_hev1 : IsBox reads_hev1 format_hev1
unfolding reads_hev1
laws_hev1 = laws_visual laws_hvcc codes.HVCC (λ c. refl) names.Hev1Box (lit< tt) visual_hev1 (λ v. v.hvcc) hev1_of
    (λ s c. refl) (λ s c. refl)

-- Reading it takes no memory.
pub hev1_takes_none : (bytes : List ℕ) (start size : ℕ) → TakesNone (reads_hev1 bytes start size)
unfolding reads_hev1
hev1_takes_none bytes start size = visual_takes_none reads_hvcc codes.HVCC hev1_of hvcc_takes_none bytes start size
