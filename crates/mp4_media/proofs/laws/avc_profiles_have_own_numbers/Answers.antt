use Rattle.std.proofs.Common.{◌≡◌, ℕ, Some, true, refl}
use Rattle.std.proofs.lemmas.Bool.{and_parts, eqb-true, not-true}
use Rattle.mp4_media.specs.AvcProfile.{is_constrained, has_avc_profile, avc_profiles, avc_profile_of}
use Rattle.mp4_media.specs.declared.avc_profile.AvcProfile.{AvcProfile}
use Rattle.mp4_media.specs.declared.avc_profile.AvcProfile.TheVariants as profiles
use Rattle.mp4_media.proofs.Inverse.{selects}
use Rattle.mp4_media.proofs.laws.avc_profiles_have_own_numbers.Goals as goal

own : (numbers : ℕ × ℕ) (p : AvcProfile) → has_avc_profile p numbers ≡ true → avc_profile_of numbers ≡ Some p
unfolding avc_profile_of
own (n, f) profiles.AvcConstrainedBaseline h = rw h refl
own (n, f) profiles.AvcBaseline h =
    let p = and_parts _ _ h in
    rw (eqb-true n 66 p.0, not-true (is_constrained f) p.1) refl
own (n, f) profiles.AvcMain h = rw (eqb-true n 77 h) refl
own (n, f) profiles.AvcExtended h = rw (eqb-true n 88 h) refl
own (n, f) profiles.AvcHigh h = rw (eqb-true n 100 h) refl

pub returns : goal.returns
unfolding avc_profile_of
returns c = selects has_avc_profile avc_profiles own
