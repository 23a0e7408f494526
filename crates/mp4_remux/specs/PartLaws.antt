-- A run of a track has one sample of each number.
use Rattle.std.specs.Prelude.{ℕ, ◌≡◌, ◌+◌}
use Rattle.std.proofs.Common.{ap, sym, ◌∙◌}
use Rattle.mp4_samples.specs.declared.sample.Sample.{Sample}
use Rattle.mp4_remux.specs.declared.parts.run.PartTeller.{PartTeller}
use Rattle.mp4_remux.specs.Parts.{IsInRun, earlier}
use Rattle.mp4_remux.specs.TrackLaws.{one_sample}

pub one_in_run : (r : PartTeller) (k : ℕ) (a b : Sample) → IsInRun r k a → IsInRun r k b → a ≡ b
one_in_run r k a b is is' =
    is.is ∙ ap (earlier r.shift) (one_sample r.teller (r.first + k) is.old is'.old is.is_old is'.is_old) ∙ sym is'.is
