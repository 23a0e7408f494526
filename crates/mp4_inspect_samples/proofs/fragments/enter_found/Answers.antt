use Rattle.mp4_inspect_samples.proofs.Outcomes.{on_ok}
use Rattle.mp4_inspect_samples.proofs.TrafLists.{entered_none, entered_some}
use Rattle.mp4_inspect_samples.proofs.fragments.enter_found.Goals as goal

pub returns-in-Some : goal.returns-in-Some
returns-in-Some c =
    on_ok c.add.result c.add.ensures
    (λ h. entered_some c.args.moof c.in-Some.track c.args.found.track c.args.found.traf _ _ _ c.in-Some.is h)

pub returns-in-None : goal.returns-in-None
returns-in-None c =
    on_ok c.keep_unknown.result c.keep_unknown.ensures
    (λ h. entered_none c.args.moof c.args.found.track c.args.found.traf _ _ _ c.in-None.is h)
