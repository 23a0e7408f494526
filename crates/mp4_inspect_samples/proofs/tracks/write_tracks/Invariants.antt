-- The tracks that are left are written after those before them.
use Rattle.std.proofs.Common.{◌≡◌, ℕ, List, [], Some, length}
use Rattle.std.specs.Vec.Iter.{into_iter_items, into_iter_len}
use Rattle.mp4_inspect_samples.proofs.TrackLists.{TracksSoFar}
use Rattle.mp4_inspect_samples.proofs.tracks.write_tracks.Given as goal
use Rattle.mp4_inspect_samples.specs.Samples.{Inputs, IsAhead, limit_of}

abbrev pub invariant-loop-info : goal.invariant-loop-info
invariant-loop-info g l = record {
  kept : l.walk ≡ l.fn.walk;
  form : l.writer.form ≡ l.choice.form;
  so_far : (i : Inputs) → l.fn.walk.bytes ≡ Some i.file → l.limit ≡ limit_of i.choice i.file → l.choice ≡ i.choice
      → IsAhead i.trafs [] l.fn.ahead
      → (met : List ℕ) × IsAhead i.trafs met l.ahead
      × TracksSoFar i l.movie l.fn.infos.items (g.W.Write.contents l.fn.output.inner) l.fn.faults.items met l.rest
      (into_iter_items l.info-iterator) l.writer.follows (g.W.Write.contents l.output.inner) l.faults.items;
  count : into_iter_len l.info-iterator ≡ length (into_iter_items l.info-iterator);
}
