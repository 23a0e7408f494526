use Rattle.mp4_inspect_samples.proofs.Outcomes.{some_at}
use Rattle.mp4_inspect_samples.proofs.TrackLists.{of_wanted, of_unwanted}
use Rattle.mp4_inspect_samples.proofs.tracks.write_if.Goals as goal

pub returns-then-not-is_wanted-clause-writes : goal.returns-then-not-is_wanted-clause-writes
returns-then-not-is_wanted-clause-writes g c = λ i met known limit choice form timescale trafs.
    of_unwanted i c.args.movie.now met c.args.heading.name c.args.media c.args.trak.now c.args.is_wanted
    c.args.writer.now.follows (g.W.Write.contents c.args.output.now.inner) c.args.faults.now.items
    c.if-not-is_wanted.true

pub returns-clause-writes : goal.returns-clause-writes
returns-clause-writes g c = λ i met known limit choice form timescale trafs.
    of_wanted i c.args.movie.now met c.args.heading.name c.args.media c.args.trak.now c.args.is_wanted
    c.args.writer.now.follows c.write_timed.new.writer.follows (g.W.Write.contents c.args.output.now.inner)
    (g.W.Write.contents c.write_timed.new.output.inner) c.args.limit c.args.writer.now.form c.args.choice
    c.args.heading.timescale c.args.trafs.items c.in_ok-fault.fault c.args.faults.now.items
    c.keep_fault.new.faults.items c.if-not-is_wanted.false limit form choice timescale trafs
    (some_at c.args.walk.now.bytes i.file _ known c.in_ok-fault.ensures.writes) c.in_ok-keep_fault.ensures
