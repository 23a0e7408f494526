use Rattle.std.proofs.Common.{◌∙◌, ap, subst}
use Rattle.mp4_inspect_samples.proofs.Outcomes.{always_ok, on_ok}
use Rattle.mp4_inspect_samples.proofs.TrackLists.{of_one}
use Rattle.mp4_inspect_samples.proofs.tracks.write_one.Goals as goal
use Rattle.mp4_inspect_samples.specs.Samples.{IsAhead, is_wanted, with_name}
use Rattle.mp4_inspect_samples.specs.declared.choice.Choice.{Choice}
use Rattle.mp4_inspect_samples.specs.declared.fault.TrackName.{TrackName}

pub returns-clause-writes : goal.returns-clause-writes
returns-clause-writes g c = λ i met known limit choice form ahead.
    let name = c.in_ok-name.name in
    on_ok c.write_if.result
    (c.write_if.ensures.writes i met known limit choice form c.read_timescale.ensures
    (c.in_ok-trafs.ensures.trafs i.trafs met ahead))
    (λ told. of_one i c.args.movie.now met c.args.trak.now c.args.info name c.is_wanted-is_wanted.result
    c.args.writer.now.follows
    c.write_if.new.writer.follows (g.W.Write.contents c.args.output.now.inner)
    (g.W.Write.contents c.write_if.new.output.inner) c.args.faults.now.items c.name_of.new.faults.items
    c.write_if.new.faults.items c.in_ok-name.ensures.name
    (c.is_wanted-is_wanted.ensures i.trafs met ahead
    ∙ ap (λ (h : Choice). is_wanted h.track met name) choice)
    c.in_ok-name.ensures.told told)

pub returns-clause-met : goal.returns-clause-met
returns-clause-met g c = λ trafs met ahead.
    always_ok c.write_if.result
    (subst (λ (n : TrackName). IsAhead trafs (with_name met n) c.enter.new.self) c.in_ok-name.ensures.name
    (c.in_ok-trafs.ensures.met trafs met ahead))
