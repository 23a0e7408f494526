use Rattle.std.proofs.Common.{◌≡◌, ◌∙◌, Some, ap}
use Rattle.mp4_check.proofs.Outcomes.{if_is, some_at}
use Rattle.mp4_check.proofs.faults.file_facts.Goals as goal
use Rattle.mp4_walk.specs.Walk.{Walk}

pub returns-clause-value : goal.returns-clause-value
returns-clause-value g c =
    if_is c.args.walk.now.bytes (λ file known. λ same met.
    let here : c.track_defaults.new.walk.bytes ≡ Some file =
    ap (λ (w : Walk). w.bytes) c.in_ok-defaults.ensures.kept ∙ known in
    let media = some_at c.track_defaults.new.walk.bytes file _ here c.in_ok-media.ensures.value in
    record {
      media_is = media.0;
      length_is = media.1;
      moov_is = c.has_box-has_moov.ensures;
      tracks_are = met;
      defaults_are = some_at c.args.walk.now.bytes file _ known c.in_ok-defaults.ensures.value;
    })
