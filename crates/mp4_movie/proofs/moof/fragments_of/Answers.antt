use Rattle.std.proofs.Common.{ap}
use Rattle.mp4_walk.specs.Walk.{Walk}
use Rattle.mp4_lemmas.proofs.Outcomes.{both_known}
use Rattle.mp4_movie.proofs.Moofs.{with_defaults}
use Rattle.mp4_movie.proofs.moof.fragments_of.Goals as goal

pub returns-clause-value : goal.returns-clause-value
returns-clause-value g c =
    both_known _ _ (ap (λ (w : Walk). w.bytes) c.defaults_of.ensures.kept) c.in_ok-defaults.ensures.value
    c.moofs_in.ensures.value
    (λ file is h. with_defaults file c.args.boxes.now c.in_ok-defaults.defaults c.moofs_in.result (λ ms. ms.items) h is)
