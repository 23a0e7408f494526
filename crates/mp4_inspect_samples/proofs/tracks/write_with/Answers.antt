use Rattle.std.proofs.Common.{◌≡◌, ℕ, ap, ◌∙◌, subst}
use Rattle.std.specs.Prelude.{IfOk}
use Rattle.std.specs.declared.option.Option.{Option}
use Rattle.mp4_inspect_samples.proofs.Outcomes.{if_is, some_at}
use Rattle.mp4_inspect_samples.proofs.tracks.write_with.Goals as goal
use Rattle.mp4_inspect_samples.specs.Row.{Labels, edits_in}
use Rattle.mp4_inspect_samples.specs.Tracks.{WritesTrack, inputs_by, labels_for}
use Rattle.mp4_inspect_samples.specs.declared.clock.Clock.{Clock}
use Rattle.mp4_inspect_samples.specs.declared.fault.Fault.{Fault}
use Rattle.mp4_movie.specs.Movies.{samples_of}

pub returns-clause-writes : goal.returns-clause-writes
returns-clause-writes g c =
    if_is c.args.walk.now.bytes (λ file known.
    let tables = samples_of file c.args.trak.now in
    let edits = edits_in c.args.edits in
    let same : (let l : Labels = record {
      track = c.id.result;
      clock = c.clock_of.result;
      edits = edits;
      sync = c.args.choice.sync;
    } in l) ≡ labels_for (inputs_by c.args.limit c.args.writer.now.form c.args.choice c.args.heading
    c.args.trafs.items tables) edits =
    ap (λ (id : Option ℕ). let l : Labels = record {
      track = id;
      clock = c.clock_of.result;
      edits = edits;
      sync = c.args.choice.sync;
    } in l) c.id.ensures
    ∙ ap (λ (k : Clock). let l : Labels = record {
      track = (labels_for (inputs_by c.args.limit c.args.writer.now.form c.args.choice c.args.heading
          c.args.trafs.items tables) edits).track;
      clock = k;
      edits = edits;
      sync = c.args.choice.sync;
    } in l) c.clock_of.ensures in
    subst (λ (l : Labels). IfOk c.write_track.result (λ (fault : Option Fault). WritesTrack c.args.limit
    c.args.writer.now.form l c.args.trafs.items tables c.args.writer.now.follows c.write_track.new.writer.follows
    (g.W.Write.contents c.args.output.now.inner) (g.W.Write.contents c.write_track.new.output.inner) fault)) same
    (some_at c.args.walk.now.bytes file _ known c.write_track.ensures.writes))
