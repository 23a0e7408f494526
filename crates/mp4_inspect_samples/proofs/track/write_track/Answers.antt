use Rattle.std.proofs.Common.{subst}
use Rattle.mp4_inspect_samples.proofs.Outcomes.{if_is, some_at}
use Rattle.mp4_inspect_samples.proofs.track.write_track.Goals as goal
use Rattle.mp4_inspect_samples.specs.Row.{labels_of}
use Rattle.mp4_inspect_samples.specs.Tracks.{WritesTrafs}
use Rattle.mp4_inspect_samples.specs.declared.row_text.Form.{Form}
use Rattle.mp4_movie.specs.Movies.{samples_of}

pub returns-clause-writes : goal.returns-clause-writes
returns-clause-writes g c =
    if_is c.args.walk.now.bytes (λ file known.
    let tables = some_at c.args.walk.now.bytes file _ known c.in_ok-tables.ensures.value in
    record {
      between = c.write_first.new.writer.follows;
      mid = g.W.Write.contents c.write_first.new.output.inner;
      first = c.in_ok-first.first;
      last = c.in_ok-last.last;
      writes_first = c.in_ok-first.ensures.writes (samples_of file c.args.trak.now) tables;
      writes_trafs = subst (λ (f : Form). WritesTrafs c.args.limit f (labels_of c.args.rule.now) c.args.trafs.items
          c.in_ok-first.first c.write_first.new.writer.follows c.write_trafs.new.writer.follows
          (g.W.Write.contents c.write_first.new.output.inner) (g.W.Write.contents c.write_trafs.new.output.inner)
          c.in_ok-last.last) c.in_ok-first.ensures.form c.in_ok-last.ensures.writes;
      fault_is = c.fault_at_end.ensures;
    })
