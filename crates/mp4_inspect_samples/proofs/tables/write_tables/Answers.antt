use Rattle.std.proofs.Common.{refl, rules}
use Rattle.mp4_inspect_samples.proofs.TrackLists.{of_boxes, of_disagreement}
use Rattle.mp4_inspect_samples.proofs.tables.write_tables.Goals as goal
use Rattle.mp4_inspect_samples.specs.Row.{labels_of}

pub returns-in_ok-reached-in-Ok-clause-writes : goal.returns-in_ok-reached-in-Ok-clause-writes
returns-in_ok-reached-in-Ok-clause-writes g c =
    of_boxes c.args.boxes.now c.tables.result c.in-Ok.tables c.time_end-time.result c.args.limit
    c.args.writer.now.form (labels_of c.args.rule.now) c.args.writer.now.follows c.write_agreed.new.writer.follows
    (g.W.Write.contents c.args.output.now.inner) (g.W.Write.contents c.write_agreed.new.output.inner)
    c.in_ok-reached-in-Ok.reached c.tables.ensures c.in-Ok.ensures.ok (c.in-Ok.ensures.exact.0 refl) (search rules)
    c.in_ok-reached-in-Ok.ensures.writes

pub returns-in-Err-clause-writes : goal.returns-in-Err-clause-writes
returns-in-Err-clause-writes g c =
    of_disagreement c.args.boxes.now c.tables.result c.in-Err.disagreement c.args.limit c.args.writer.now.form
    (labels_of c.args.rule.now) c.args.writer.now.follows (g.W.Write.contents c.args.output.now.inner) c.tables.ensures
    c.in-Err.ensures.err
