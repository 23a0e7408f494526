use Rattle.std.proofs.Common.{◌≡◌, ◌∙◌, ◌++◌, ap, List}
use Rattle.std.specs.declared.option.Option.{Option}
use Rattle.mp4_check.specs.FaultValues.{values_of}
use Rattle.mp4_check.specs.FragmentFaults.{found_at, next_end, next_times, time_of, traf_faults}
use Rattle.mp4_check.specs.FragmentValues.{TrafValue, fragment_header, value_of_traf}
use Rattle.mp4_check.specs.declared.fault.Fault.{Fault}
use Rattle.mp4_check.proofs.fragments.traf_faults.Goals as goal

pub returns-clause-value : goal.returns-clause-value
returns-clause-value g c = λ f times bytes facts going.
    let place = c.args.place in
    let traf = found_at c.args.traf in
    let header : c.in_ok-header.header ≡ fragment_header f.bytes c.args.traf.after.now =
    rw bytes at c.in_ok-header.ensures.value in
    let values = c.in_ok-values.ensures.value f (rw c.in_ok-header.ensures.kept bytes) facts in
    let given = c.push_faults.ensures.faults f times facts going.times_are header in
    let told = rw c.in_ok-or_memory.ensures.ok at given in
    told
    ∙ ap (λ (fs : List Fault). values_of fs
    ++ traf_faults f times place.moof_number place.number traf (value_of_traf c.in_ok-values.values))
    c.new-faults.ensures.items
    ∙ ap (λ (v : Option TrafValue). traf_faults f times place.moof_number place.number traf v) values

pub returns-clause-going : goal.returns-clause-going
returns-clause-going g c = λ f times bytes facts going.
    let values = c.in_ok-values.ensures.value f (rw c.in_ok-header.ensures.kept bytes) facts in
    let given = c.push_faults.ensures.times times going.times_are in
    let told = rw c.in_ok-or_memory.ensures.ok at given in
    record {
      end_is = c.end_of-going.ensures ∙ ap next_end values;
      times_are = λ id.
          told id ∙ ap (λ (v : Option TrafValue). time_of id (next_times times v)) values;
    }
