use Rattle.std.proofs.Common.{◌≡◌, ℕ, ◌∷◌, [], ap, subst, ◌∙◌}
use Rattle.std.specs.declared.option.Option.{Option}
use Rattle.mp4_inspect_samples.proofs.Outcomes.{if_is, some_at}
use Rattle.mp4_inspect_samples.proofs.fragments.enter_traf.Goals as goal
use Rattle.mp4_inspect_samples.specs.Trafs.{Enters, Traf, traf_at}
use Rattle.mp4_inspect_samples.specs.declared.fragments.TrackTraf.{TrackTraf}

pub returns-clause-value : goal.returns-clause-value
returns-clause-value g c =
    if_is c.args.walk.now.bytes (λ file known.
    let track = some_at c.args.walk.now.bytes file _ known c.in_ok-found.ensures.track in
    let stored = some_at c.args.walk.now.bytes file _ known c.in_ok-found.ensures.stored in
    let same : (let t : Traf = record {
      moof = c.args.moof;
      id = c.in_ok-found.found.track;
      stored = c.in_ok-found.found.traf;
    } in t) ≡ traf_at file c.args.moof c.args.traf.now c.args.answer =
    ap (λ (o : Option ℕ). let t : Traf = record {
      moof = c.args.moof;
      id = o;
      stored = c.in_ok-found.found.traf;
    } in t) track
    ∙ ap (λ (s : TrackTraf). let t : Traf = record {
      moof = c.args.moof;
      id = (traf_at file c.args.moof c.args.traf.now c.args.answer).id;
      stored = s;
    } in t) stored in
    subst (λ (t : Traf). Enters (t ∷ []) c.args.fragments.now c.enter_found.new.fragments c.args.faults.now.items
    c.enter_found.new.faults.items) same c.in_ok-enter_found.ensures)
