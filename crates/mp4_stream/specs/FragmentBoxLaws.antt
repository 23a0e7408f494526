-- The laws of a box that describes fragments follow from the laws of its type.
use Rattle.std.proofs.Common.{refl}
use Rattle.mp4_frame.specs.Members.{NamedAsRead, held_inside}
use Rattle.mp4_frame.specs.declared.box_type.BoxType.TheVariants as names
use Rattle.mp4_frame.specs.MemberLaws.{IsMember, member}
use Rattle.mp4_stream.specs.Boxes.{laws_mehd, laws_trex, laws_mfhd, laws_tfhd, laws_tfdt, laws_trun, laws_emsg}
use Rattle.mp4_stream.specs.FragmentBox.{kinds, inside}
use Rattle.mp4_stream.specs.declared.fragment_box.FragmentBox.{FragmentBox}
use Rattle.mp4_stream.specs.declared.fragment_box.FragmentBox.TheVariants as fragment

pub members : (v : FragmentBox) → IsMember kinds (held_inside inside) v
members (fragment.MehdBox b) =
    member kinds (held_inside inside) fragment.MehdBox laws_mehd (λ _. refl) (λ _. refl) (λ _. refl) b
members (fragment.TrexBox b) =
    member kinds (held_inside inside) fragment.TrexBox laws_trex (λ _. refl) (λ _. refl) (λ _. refl) b
members (fragment.MfhdBox b) =
    member kinds (held_inside inside) fragment.MfhdBox laws_mfhd (λ _. refl) (λ _. refl) (λ _. refl) b
members (fragment.TfhdBox b) =
    member kinds (held_inside inside) fragment.TfhdBox laws_tfhd (λ _. refl) (λ _. refl) (λ _. refl) b
members (fragment.TfdtBox b) =
    member kinds (held_inside inside) fragment.TfdtBox laws_tfdt (λ _. refl) (λ _. refl) (λ _. refl) b
members (fragment.TrunBox b) =
    member kinds (held_inside inside) fragment.TrunBox laws_trun (λ _. refl) (λ _. refl) (λ _. refl) b
members (fragment.EmsgBox b) =
    member kinds (held_inside inside) fragment.EmsgBox laws_emsg (λ _. refl) (λ _. refl) (λ _. refl) b

-- A box that is read under a name has that name.
pub named : NamedAsRead kinds (held_inside inside)
named (names.UnknownBox code) x = (refl, refl)
named _ x = (refl, refl)
