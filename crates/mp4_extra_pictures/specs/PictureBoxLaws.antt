-- A type of picture boxes is found by its code, and no other is.
use Rattle.std.proofs.Common.{◌≡◌, ℕ, Some, refl}
use Rattle.mp4_shown.specs.CatalogueLaws.{IsCatalogue, code_among}
use Rattle.mp4_extra_pictures.specs.PictureBox.{entry_of, opened, picture_types, picture_of_code}
use Rattle.mp4_extra_pictures.specs.declared.picture_box.TheConstants.{TYPES}
use Rattle.mp4_extra_pictures.specs.declared.picture_box.PictureType.{PictureType}
use Rattle.mp4_extra_pictures.specs.declared.picture_box.PictureType.TheVariants as types
use Rattle.mp4_extra_pictures.specs.declared.picture_box.PictureBox.{PictureBox}
use Rattle.mp4_extra_pictures.specs.declared.picture_box.PictureBox.TheVariants as boxes

reopened : (v : PictureBox) → (entry_of (opened v).0).wrap (opened v).1 ≡ v
reopened (boxes.AuxcBox fields) = refl
reopened _ = refl

is_opened : (t : PictureType) (x : (entry_of t).Fields) → opened ((entry_of t).wrap x) ≡ (t, x)
is_opened types.AuxcBox x = refl
is_opened _ x = refl

type_found : (t : PictureType) → picture_of_code (entry_of t).code ≡ Some t
unfolding picture_of_code
type_found types.AuxcBox = refl
type_found _ = refl

code_found : (code : ℕ) (t : PictureType) → picture_of_code code ≡ Some t → code ≡ (entry_of t).code
unfolding picture_of_code
code_found code t e = code_among entry_of TYPES.now code t e

pub picture_laws : IsCatalogue picture_types
picture_laws = record { reopened = reopened; is_opened = is_opened; found = type_found; own_code = code_found }
