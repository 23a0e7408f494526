use Rattle.std.proofs.Common.{◌≡◌, ℕ, List, ◌∙◌, Some, ap}
use Rattle.std.specs.BTreeMap.{get}
use Rattle.std.specs.Ordering.{nat_cmp}
use Rattle.mp4_check.specs.FaultValues.{values_of}
use Rattle.mp4_check.specs.declared.fault.Fault.{Fault}
use Rattle.mp4_check.proofs.Outcomes.{if_is, some_at}
use Rattle.mp4_check.proofs.SampleLoops.{all_samples}
use Rattle.mp4_check.proofs.sample_faults.sample_faults.Goals as goal
use Rattle.mp4_walk.specs.Walk.{Walk}

pub returns-clause-value : goal.returns-clause-value
returns-clause-value g c =
    if_is c.args.walk.now.bytes (λ file known.
    let two : c.tracks_samples.new.walk.bytes ≡ Some file =
    ap (λ (w : Walk). w.bytes) c.in_ok-tracks_samples.ensures.kept ∙ known in
    let three : c.track_defaults.new.walk.bytes ≡ Some file =
    ap (λ (w : Walk). w.bytes) c.in_ok-defaults.ensures.kept ∙ two in
    all_samples file c.args.boxes.now c.movie_in.result.now
    (λ (q : ℕ). get nat_cmp c.in_ok-defaults.defaults q) c.new-kept.result.left c.tracks_samples.new.kept.left
    c.fragments_samples.new.kept.left c.tracks_samples.new.kept (values_of c.new-faults.result.items)
    (values_of c.tracks_samples.new.faults.items) (values_of c.fragments_samples.new.faults.items)
    (c.new-kept.ensures.left ∙ some_at c.args.walk.now.bytes file _ known c.file_length.ensures)
    (ap (λ (fs : List Fault). values_of fs) c.new-faults.ensures.items) c.movie_in.ensures
    (some_at c.args.walk.now.bytes file _ known c.in_ok-tracks_samples.ensures.value)
    (some_at c.args.walk.now.bytes file _ known c.in_ok-tracks_samples.ensures.kinds (c.new-kept.ensures.kinds file))
    (some_at c.tracks_samples.new.walk.bytes file _ two c.in_ok-defaults.ensures.value)
    (some_at c.track_defaults.new.walk.bytes file _ three c.in_ok-fragments_samples.ensures.value))
