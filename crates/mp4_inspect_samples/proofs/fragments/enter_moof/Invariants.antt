-- The trafs that are left are entered after those of the moof before them.
use Rattle.std.proofs.Common.{◌≡◌, length}
use Rattle.std.specs.Prelude.{IfSome}
use Rattle.std.specs.Vec.Iter.{into_iter_items, into_iter_len}
use Rattle.mp4_inspect_samples.proofs.TrafLists.{TrafsSoFar}
use Rattle.mp4_inspect_samples.proofs.fragments.enter_moof.Given as goal

abbrev pub invariant-loop-answer : goal.invariant-loop-answer
invariant-loop-answer g l = record {
  kept : l.walk ≡ l.fn.walk;
  so_far : IfSome l.fn.walk.bytes (λ file. TrafsSoFar file l.moof l.boxes l.fn.answers.items l.fn.fragments
      l.fn.faults.items l.rest (into_iter_items l.answer-iterator) l.fragments l.faults.items);
  count : into_iter_len l.answer-iterator ≡ length (into_iter_items l.answer-iterator);
}
