use Rattle.std.proofs.Common.{◌∙◌}
use Rattle.mp4_check.proofs.MetTracks.{met_same}
use Rattle.mp4_check.proofs.tracks.header_faults.Goals as goal

pub returns-in_default-clause-met : goal.returns-in_default-clause-met
returns-in_default-clause-met c = λ file earlier f header is met.
    met_same file earlier f c.args.met.now (header ∙ c.in_default.is) met
