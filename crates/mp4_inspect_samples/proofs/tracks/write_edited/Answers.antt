use Rattle.std.proofs.Common.{inr, refl}
use Rattle.mp4_inspect_samples.proofs.Outcomes.{if_is, if_ok, some_at}
use Rattle.mp4_inspect_samples.proofs.TrackLists.{of_edits}
use Rattle.mp4_inspect_samples.proofs.tracks.write_edited.Goals as goal
use Rattle.mp4_inspect_samples.specs.EditParts.{edits_by}
use Rattle.mp4_inspect_samples.specs.Tracks.{inputs_by}
use Rattle.mp4_movie.specs.Movies.{samples_of}

pub returns-in-Ok-clause-writes : goal.returns-in-Ok-clause-writes
returns-in-Ok-clause-writes g c =
    if_is c.args.walk.now.bytes (λ file known.
    if_ok c.write_with.result (some_at c.args.walk.now.bytes file _ known c.write_with.ensures.writes)
    (λ fault w. of_edits (inputs_by c.args.limit c.args.writer.now.form c.args.choice c.args.heading c.args.trafs.items
    (samples_of file c.args.trak.now)) (edits_by c.args.parts.now) c.in-Ok.edits c.args.writer.now.follows
    c.write_with.new.writer.follows (g.W.Write.contents c.args.output.now.inner)
    (g.W.Write.contents c.write_with.new.output.inner) fault c.in-Ok.ensures.usable c.in-Ok.ensures.ok w))

pub returns-in-Err-clause-writes : goal.returns-in-Err-clause-writes
returns-in-Err-clause-writes g c =
    if_is c.args.walk.now.bytes (λ file known. inr (c.in-Err.fault, c.in-Err.ensures.err, (refl, (refl, refl))))
