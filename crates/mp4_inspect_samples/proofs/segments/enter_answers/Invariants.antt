-- The answers that are left follow those before them.
use Rattle.std.proofs.Common.{◌≡◌, ℕ, ◌++◌, length}
use Rattle.std.specs.BTreeMap.{get}
use Rattle.std.specs.Ordering.{nat_cmp}
use Rattle.std.specs.Vec.Iter.{into_iter_items, into_iter_len}
use Rattle.mp4_inspect_samples.proofs.segments.enter_answers.Given as goal
use Rattle.mp4_inspect_samples.specs.Segments.{answer_faults, fragments_in, time_at, time_or}

abbrev pub invariant-loop-answer : goal.invariant-loop-answer
invariant-loop-answer l = record {
  told : l.faults.items ++ answer_faults l.moof (into_iter_items l.answer-iterator)
      ≡ l.fn.faults.items ++ answer_faults l.moof l.fn.answers.items;
  times : (q : ℕ) → time_at q (time_or (get nat_cmp l.times.by_track q)) (fragments_in (into_iter_items
      l.answer-iterator))
      ≡ time_at q (time_or (get nat_cmp l.fn.times.by_track q)) (fragments_in l.fn.answers.items);
  count : into_iter_len l.answer-iterator ≡ length (into_iter_items l.answer-iterator);
}
