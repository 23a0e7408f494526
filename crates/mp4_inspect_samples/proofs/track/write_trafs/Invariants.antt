-- The trafs that are left are written after those of the track before them.
use Rattle.std.proofs.Common.{◌≡◌, length}
use Rattle.std.specs.Vec.Iter.{into_iter_items, into_iter_len}
use Rattle.mp4_inspect_samples.proofs.TrackLists.{RowsSoFar}
use Rattle.mp4_inspect_samples.proofs.track.write_trafs.Given as goal
use Rattle.mp4_inspect_samples.specs.Row.{labels_of}

abbrev pub invariant-loop-traf : goal.invariant-loop-traf
invariant-loop-traf g l = record {
  form : l.writer.form ≡ l.fn.writer.form;
  so_far : RowsSoFar l.limit l.fn.writer.form (labels_of l.rule) l.fn.trafs.items l.fn.first l.fn.writer.follows
      (g.W.Write.contents l.fn.output.inner) (into_iter_items l.traf-iterator) l.reached l.writer.follows
      (g.W.Write.contents l.output.inner);
  count : into_iter_len l.traf-iterator ≡ length (into_iter_items l.traf-iterator);
}
