-- A type of sound boxes is found by its code, and no other is.
use Rattle.std.proofs.Common.{◌≡◌, ℕ, Some, refl}
use Rattle.mp4_shown.specs.CatalogueLaws.{IsCatalogue, code_among}
use Rattle.mp4_extra_sound.specs.SoundBox.{entry_of, opened, sound_types, sound_of_code}
use Rattle.mp4_extra_sound.specs.declared.sound_box.TheConstants.{TYPES}
use Rattle.mp4_extra_sound.specs.declared.sound_box.SoundType.{SoundType}
use Rattle.mp4_extra_sound.specs.declared.sound_box.SoundType.TheVariants as types
use Rattle.mp4_extra_sound.specs.declared.sound_box.SoundBox.{SoundBox}
use Rattle.mp4_extra_sound.specs.declared.sound_box.SoundBox.TheVariants as boxes

reopened : (v : SoundBox) → (entry_of (opened v).0).wrap (opened v).1 ≡ v
reopened (boxes.AlacBox fields) = refl
reopened _ = refl

is_opened : (t : SoundType) (x : (entry_of t).Fields) → opened ((entry_of t).wrap x) ≡ (t, x)
is_opened types.AlacBox x = refl
is_opened _ x = refl

type_found : (t : SoundType) → sound_of_code (entry_of t).code ≡ Some t
unfolding sound_of_code
type_found types.AlacBox = refl
type_found _ = refl

code_found : (code : ℕ) (t : SoundType) → sound_of_code code ≡ Some t → code ≡ (entry_of t).code
unfolding sound_of_code
code_found code t e = code_among entry_of TYPES.now code t e

pub sound_laws : IsCatalogue sound_types
sound_laws = record { reopened = reopened; is_opened = is_opened; found = type_found; own_code = code_found }
