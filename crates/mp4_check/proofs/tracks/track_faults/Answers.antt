use Rattle.std.proofs.Common.{◌≡◌, ◌∙◌, ap, sym, List}
use Rattle.mp4_check.proofs.Outcomes.{if_some}
use Rattle.mp4_check.specs.Headers.{track_header}
use Rattle.mp4_check.specs.References.{is_away}
use Rattle.mp4_check.specs.TrackFaults.{TrackValue}
use Rattle.mp4_walk.specs.declared.tree_box.TreeBox.{TreeBox}
use Rattle.mp4_check.proofs.tracks.track_faults.Goals as goal

pub returns-clause-met : goal.returns-clause-met
returns-clause-met g c =
    if_some c.args.walk.now.bytes c.in_ok-values.ensures.value
    (λ file value. λ earlier f after met.
    let header : track_header file f.after ≡ c.in_ok-values.values.header =
    ap (λ (boxes : List TreeBox). track_header file boxes) after
    ∙ sym (ap (λ (v : TrackValue). v.header) value) in
    let away : is_away file f.after ≡ c.in_ok-values.values.is_away =
    ap (λ (boxes : List TreeBox). is_away file boxes) after ∙ sym (ap (λ (v : TrackValue). v.away) value) in
    rw c.in_ok-or_memory.ensures.ok at (c.push_faults.ensures.met file earlier f header away met))
