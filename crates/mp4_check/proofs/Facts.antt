-- The facts of a movie that the rules of tracks need, part by part.
use Rattle.std.proofs.Common.{◌≡◌, ℕ, Bool, List, ap, ◌∙◌}
use Rattle.std.specs.declared.option.Option.{Option}
use Rattle.mp4_check.specs.TrackFaults.{Facts}
use Rattle.mp4_check.specs.declared.duration.Times.{Times}
use Rattle.mp4_check.specs.declared.extent.Extent.{Extent}

abbrev pub facts : List Extent → ℕ → Option Times → Bool → Facts
facts media length times fragmented =
    record { media = media; length = length; times = times; fragmented = fragmented }

pub facts_same : (m n : List Extent) (k l : ℕ) (t u : Option Times) (a b : Bool) → m ≡ n → k ≡ l → t ≡ u → a ≡ b
    → facts m k t a ≡ facts n l u b
facts_same m n k l t u a b media length times fragmented =
    ap (λ (x : List Extent). facts x k t a) media ∙ ap (λ (x : ℕ). facts n x t a) length
    ∙ ap (λ (x : Option Times). facts n l x a) times ∙ ap (λ (x : Bool). facts n l u x) fragmented
