-- A type of sample boxes is found by its code, and no other is.
use Rattle.std.proofs.Common.{◌≡◌, ℕ, Some, refl}
use Rattle.mp4_shown.specs.CatalogueLaws.{IsCatalogue, code_among}
use Rattle.mp4_extra_samples.specs.SampleBox.{entry_of, opened, sample_types, sample_of_code}
use Rattle.mp4_extra_samples.specs.declared.sample_box.TheConstants.{TYPES}
use Rattle.mp4_extra_samples.specs.declared.sample_box.SampleType.{SampleType}
use Rattle.mp4_extra_samples.specs.declared.sample_box.SampleType.TheVariants as types
use Rattle.mp4_extra_samples.specs.declared.sample_box.SampleBox.{SampleBox}
use Rattle.mp4_extra_samples.specs.declared.sample_box.SampleBox.TheVariants as boxes

reopened : (v : SampleBox) → (entry_of (opened v).0).wrap (opened v).1 ≡ v
reopened (boxes.CslgBox fields) = refl
reopened _ = refl

is_opened : (t : SampleType) (x : (entry_of t).Fields) → opened ((entry_of t).wrap x) ≡ (t, x)
is_opened types.CslgBox x = refl
is_opened _ x = refl

type_found : (t : SampleType) → sample_of_code (entry_of t).code ≡ Some t
unfolding sample_of_code
type_found types.CslgBox = refl
type_found _ = refl

code_found : (code : ℕ) (t : SampleType) → sample_of_code code ≡ Some t → code ≡ (entry_of t).code
unfolding sample_of_code
code_found code t e = code_among entry_of TYPES.now code t e

pub sample_laws : IsCatalogue sample_types
sample_laws = record { reopened = reopened; is_opened = is_opened; found = type_found; own_code = code_found }
