-- The moofs that are left are written after those before them.
use Rattle.std.proofs.Common.{◌≡◌, ℕ, length}
use Rattle.std.specs.BTreeMap.{get}
use Rattle.std.specs.Ordering.{nat_cmp}
use Rattle.std.specs.Vec.Iter.{into_iter_items, into_iter_len}
use Rattle.mp4_frame.specs.FourCC.{four_cc_of}
use Rattle.mp4_frame.specs.declared.codes.TheConstants as codes
use Rattle.mp4_inspect_samples.proofs.SegmentLists.{FaultsSoFar, SegmentsSoFar}
use Rattle.mp4_inspect_samples.proofs.segments.write_moofs.Given as goal
use Rattle.mp4_inspect_samples.specs.Segments.{time_or}
use Rattle.mp4_movie.specs.Levels.{all_in}

abbrev pub invariant-loop-moof : goal.invariant-loop-moof
invariant-loop-moof g l = record {
  form : l.writer.form ≡ l.fn.writer.form;
  rows : SegmentsSoFar (record { form = l.fn.writer.form; seconds = l.rule.seconds; length = l.rule.length })
      (λ (q : ℕ). time_or (get nat_cmp l.fn.times.by_track q)) l.fn.writer.follows
      (all_in 0 (four_cc_of codes.MOOF) l.boxes) l.fn.moofs.items (g.W.Write.contents l.fn.output.inner)
      (λ (q : ℕ). time_or (get nat_cmp l.times.by_track q)) l.writer.follows l.number
      (all_in 0 (four_cc_of codes.MOOF) l.rest) (into_iter_items l.moof-iterator) (g.W.Write.contents l.output.inner);
  faults : FaultsSoFar l.fn.faults.items (all_in 0 (four_cc_of codes.MOOF) l.boxes) l.fn.moofs.items l.faults.items
      l.rest
      (into_iter_items l.moof-iterator);
  count : into_iter_len l.moof-iterator ≡ length (into_iter_items l.moof-iterator);
}
