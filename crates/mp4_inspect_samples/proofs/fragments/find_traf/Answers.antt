use Rattle.std.proofs.Common.{◌∙◌, Result, ap, sym}
use Rattle.mp4_inspect_samples.proofs.Outcomes.{if_is}
use Rattle.mp4_inspect_samples.proofs.fragments.find_traf.Goals as goal
use Rattle.mp4_inspect_samples.specs.Trafs.{id_of_traf, stored_of}
use Rattle.mp4_movie.specs.declared.error.BoxError.{BoxError}
use Rattle.mp4_movie.specs.declared.track_fragment.TrackFragment.{TrackFragment}

pub returns-in-Ok-clause-track : goal.returns-in-Ok-clause-track
returns-in-Ok-clause-track g c =
    if_is c.args.walk.now.bytes (λ file known.
    c.find_fragment.ensures.track file c.args.traf.now
    ∙ ap (λ (r : Result TrackFragment BoxError). id_of_traf file c.args.traf.now r) (sym c.in-Ok.is))

pub returns-in-Ok-clause-stored : goal.returns-in-Ok-clause-stored
returns-in-Ok-clause-stored g c =
    if_is c.args.walk.now.bytes (λ file known.
    c.find_fragment.ensures.stored file c.args.traf.now
    ∙ ap (λ (r : Result TrackFragment BoxError). stored_of file c.args.traf.now r) (sym c.in-Ok.is))
