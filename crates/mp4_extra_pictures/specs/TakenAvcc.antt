-- The AVC configuration box, as it is taken out of JSON.
use Rattle.std.specs.Prelude.{ℕ, ◌==◌, ◌&&◌, nat_le, not, List, if◌then◌else◌, Ok, codes, length}
use Rattle.mp4_declared.specs.Layout.{OwnEntry}
use Rattle.mp4_shown.specs.Lists.{ListName}
use Rattle.mp4_extra_pictures.specs.AvcProfile.{has_format}
use Rattle.mp4_extra_pictures.specs.declared.avcc.AvcConfig.{AvcConfig}
use Rattle.mp4_extra_pictures.specs.declared.avcc.AvcExtension.{AvcExtension}
use Rattle.mp4_extra_pictures.specs.declared.avcc.AvcNalUnit.{AvcNalUnit}
use Rattle.mp4_extra_pictures.specs.declared.avcc.Avcc.{Avcc}
use Rattle.mp4_extra_pictures.specs.declared.avcc.TheConstants as avcc
use Rattle.mp4_extra_pictures.specs.declared.tail.AtEnd.{AtEnd}
use Rattle.mp4_extra_pictures.specs.declared.tail.AtEnd.TheVariants as at_end
use Rattle.mp4_shown.specs.Object.{has}
use Rattle.mp4_shown.specs.TakenRuns.{run_taken}
use Rattle.mp4_shown.specs.TakenShapes.{Takes, layout_taken, map_taken}
use Rattle.mp4_shown.specs.Taking.{expect, ◌>>=◌}
use Rattle.mp4_shown.specs.declared.taken.error.Reason.TheVariants as reasons

-- as many sequence parameter sets as the configuration says
abbrev pub sets_taken : Takes (List AvcNalUnit) → ℕ → Takes (List AvcNalUnit)
sets_taken units count ms =
    units ms >>= λ p. expect (length p.0 == count) avcc.NAMES.now.1.0.0.now reasons.WrongCount >>= λ _. Ok p

-- other bytes at the end, which are no format of samples
abbrev pub other_end : ℕ → Takes (AtEnd AvcExtension (List ℕ))
other_end profile ms =
    run_taken avcc.NAMES.now.1.1.1.0 ms >>= λ p.
    expect (not (has_format profile && nat_le 4 (length p.0))) avcc.NAMES.now.1.1.1.0.0.now reasons.WrongLength
    >>= λ _. Ok (at_end.Other p.0, p.1)

-- the format of samples if it is present, or else other bytes
abbrev pub end_taken : Takes AvcExtension → ℕ → Takes (AtEnd AvcExtension (List ℕ))
end_taken extension profile ms =
    if has_format profile && has (codes "chroma_format") ms then map_taken at_end.Known (extension ms)
    else other_end profile ms

abbrev make_avcc : AvcConfig → List AvcNalUnit → List AvcNalUnit → AtEnd AvcExtension (List ℕ) → Avcc
make_avcc config sets picture_sets extension = record {
  config = config;
  sequence_parameter_sets = sets;
  picture_parameter_sets = picture_sets;
  extension = extension;
}

abbrev pub avcc_taken : OwnEntry AvcConfig 6 → (ListName → Takes (List AvcNalUnit)) → Takes AvcExtension → Takes Avcc
avcc_taken l units extension ms =
    layout_taken l avcc.NAMES.now.0.now ms >>= λ p.
    sets_taken (units avcc.NAMES.now.1.0) p.0.num_of_sequence_parameter_sets p.1 >>= λ q.
    units avcc.NAMES.now.1.1.0 q.1 >>= λ r.
    end_taken extension p.0.avc_profile_indication r.1 >>= λ s.
    Ok (make_avcc p.0 q.0 r.0 s.0, s.1)
