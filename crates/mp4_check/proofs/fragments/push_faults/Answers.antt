use Rattle.std.proofs.Common.{◌∙◌, ◌++◌, ap, append_assoc, List}
use Rattle.std.specs.declared.option.Option.{Option}
use Rattle.mp4_check.specs.FaultValues.{Value, values_of}
use Rattle.mp4_check.specs.FragmentFaults.{header_faults, runs_faults, time_faults}
use Rattle.mp4_check.specs.FragmentValues.{value_of_traf}
use Rattle.mp4_check.specs.declared.trafs.FragmentHeader.{FragmentHeader}
use Rattle.mp4_check.proofs.Outcomes.{on_ok}
use Rattle.mp4_check.proofs.fragments.push_faults.Goals as goal

pub returns-clause-faults : goal.returns-clause-faults
returns-clause-faults c = λ f ts facts times header.
    let m = c.args.place.moof_number in
    let n = c.args.place.number in
    let values = value_of_traf c.args.values.now in
    let old = values_of c.args.faults.now.items in
    let runs = runs_faults f m n c.args.traf.found.position values in
    let one = header_faults f m n c.args.header in
    let last = time_faults ts m n c.args.traf.after.now values in
    on_ok c.time_faults.result (c.time_faults.ensures.faults ts times)
    (λ told.
    told
    ∙ ap (λ (vs : List Value). vs ++ last)
    (c.in_ok-header_faults.ensures f facts ∙ ap (λ (vs : List Value). vs ++ one) (c.in_ok-run_faults.ensures f facts))
    ∙ append_assoc (old ++ runs) one last
    ∙ append_assoc old runs (one ++ last)
    ∙ ap (λ (h : Option FragmentHeader). old ++ (runs ++ (header_faults f m n h ++ last))) header)
