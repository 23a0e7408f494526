use Rattle.mp4_check.proofs.Outcomes.{if_some}
use Rattle.mp4_check.proofs.faults.track_defaults.Goals as goal

pub returns-clause-value : goal.returns-clause-value
returns-clause-value g c =
    if_some c.args.walk.now.bytes (rw c.in_ok-defaults.ensures.ok at c.defaults_of.ensures.value)
    (λ file are. are.by_track_is)
