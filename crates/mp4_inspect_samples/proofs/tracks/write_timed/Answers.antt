use Rattle.std.proofs.Common.{◌≡◌, ◌∙◌, Bool, Err, Ok, Some, ap, refl, subst, sym}
use Rattle.std.specs.Prelude.{IfOk}
use Rattle.std.specs.declared.option.Option.{Option}
use Rattle.mp4_inspect_samples.proofs.Outcomes.{if_is, if_ok, some_at}
use Rattle.mp4_inspect_samples.proofs.TrackLists.{of_timed}
use Rattle.mp4_inspect_samples.proofs.tracks.write_timed.Goals as goal
use Rattle.mp4_inspect_samples.specs.Tracks.{WritesTimed, inputs_by}
use Rattle.mp4_inspect_samples.specs.declared.fault.Fault.{Fault}
use Rattle.mp4_movie.specs.Movies.{samples_of}
use Rattle.mp4_walk.specs.Walk.{Walk}

pub returns-then-not-is_edited-clause-writes : goal.returns-then-not-is_edited-clause-writes
returns-then-not-is_edited-clause-writes g c =
    if_is c.args.walk.now.bytes (λ file known.
    subst (λ (b : Bool). IfOk c.write_with.result (λ (fault : Option Fault). WritesTimed b file c.args.movie.now
    c.args.trak.now c.args.media (inputs_by c.args.limit c.args.writer.now.form c.args.choice c.args.heading
    c.args.trafs.items (samples_of file c.args.trak.now)) c.args.writer.now.follows c.write_with.new.writer.follows
    (g.W.Write.contents c.args.output.now.inner) (g.W.Write.contents c.write_with.new.output.inner) fault))
    (sym c.if-not-is_edited.true)
    (some_at c.args.walk.now.bytes file _ known c.write_with.ensures.writes))

pub returns-in-Ok-clause-writes : goal.returns-in-Ok-clause-writes
returns-in-Ok-clause-writes g c =
    if_is c.args.walk.now.bytes (λ file known.
    let here : c.edit_parts.new.walk.bytes ≡ Some file = ap (λ (w : Walk). w.bytes) c.in_ok-read.ensures.kept ∙ known in
    if_ok c.write_edited.result (some_at c.edit_parts.new.walk.bytes file _ here c.write_edited.ensures.writes)
    (λ fault w. of_timed c.args.choice.edits file c.args.movie.now c.args.trak.now c.args.media
    (inputs_by c.args.limit c.args.writer.now.form c.args.choice c.args.heading c.args.trafs.items
    (samples_of file c.args.trak.now)) c.in_ok-read.read (Ok c.in-Ok.parts) c.args.writer.now.follows
    c.write_edited.new.writer.follows (g.W.Write.contents c.args.output.now.inner)
    (g.W.Write.contents c.write_edited.new.output.inner) fault c.if-not-is_edited.false
    (some_at c.args.walk.now.bytes file _ known c.in_ok-read.ensures.value) c.in-Ok.is w))

pub returns-in-Err-clause-writes : goal.returns-in-Err-clause-writes
returns-in-Err-clause-writes g c =
    if_is c.args.walk.now.bytes (λ file known.
    of_timed c.args.choice.edits file c.args.movie.now c.args.trak.now c.args.media
    (inputs_by c.args.limit c.args.writer.now.form c.args.choice c.args.heading c.args.trafs.items
    (samples_of file c.args.trak.now)) c.in_ok-read.read (Err c.in-Err.error) c.args.writer.now.follows
    c.args.writer.now.follows (g.W.Write.contents c.args.output.now.inner)
    (g.W.Write.contents c.args.output.now.inner) _ c.if-not-is_edited.false
    (some_at c.args.walk.now.bytes file _ known c.in_ok-read.ensures.value) c.in-Err.is (refl, (refl, refl)))
