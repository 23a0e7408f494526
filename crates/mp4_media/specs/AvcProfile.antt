-- The profiles of advanced video coding (ISO/IEC 14496-10, A.2).
use Rattle.std.specs.Prelude.{ℕ, ◌/◌, ◌%◌, ◌==◌, ◌&&◌, not, Bool, List, [], ◌∷◌, Option, codes}
use Rattle.std.specs.List.{find}
use Rattle.mp4_media.specs.declared.avc_profile.AvcProfile.{AvcProfile}
use Rattle.mp4_media.specs.declared.avc_profile.AvcProfile.TheVariants as profiles

-- bit 0x40 of the constraint flags is set: constraint set 1
abbrev pub is_constrained : ℕ → Bool
is_constrained flags = flags / 64 % 2 == 1

-- the table: the profile has this profile number and these constraint flags
abbrev pub has_avc_profile : AvcProfile → ℕ × ℕ → Bool
has_avc_profile profiles.AvcConstrainedBaseline (number, flags) = number == 66 && is_constrained flags
has_avc_profile profiles.AvcBaseline (number, flags) = number == 66 && not (is_constrained flags)
has_avc_profile profiles.AvcMain (number, flags) = number == 77
has_avc_profile profiles.AvcExtended (number, flags) = number == 88
has_avc_profile profiles.AvcHigh (number, flags) = number == 100

-- the printed names
abbrev pub text_avc_profile : AvcProfile → List ℕ
text_avc_profile profiles.AvcConstrainedBaseline = codes "Constrained Baseline"
text_avc_profile profiles.AvcBaseline = codes "Baseline"
text_avc_profile profiles.AvcMain = codes "Main"
text_avc_profile profiles.AvcExtended = codes "Extended"
text_avc_profile profiles.AvcHigh = codes "High"

abbrev pub avc_profiles : List AvcProfile
avc_profiles =
    profiles.AvcConstrainedBaseline ∷ profiles.AvcBaseline ∷ profiles.AvcMain ∷ profiles.AvcExtended
    ∷ profiles.AvcHigh ∷ []

-- the profile that has this profile number and these constraint flags
unfoldable pub avc_profile_of : ℕ × ℕ → Option AvcProfile
avc_profile_of numbers = find (λ p. has_avc_profile p numbers) avc_profiles
