-- The answers before this one don't concern the track by an error, and its fragments among them are taken.
use Rattle.std.proofs.Common.{◌≡◌, ◌++◌, length}
use Rattle.std.specs.Vec.Iter.{into_iter_items, into_iter_len}
use Rattle.mp4_c.specs.FragmentSamples.{AppendsOwn}
use Rattle.mp4_c.proofs.fragment_samples.take_all.Given as goal

abbrev pub invariant-loop-answer : goal.invariant-loop-answer
invariant-loop-answer l = record {
  taken : AppendsOwn l.track_id l.yielded l.initial.own.items l.own.items;
  left : l.fn.answers.items ≡ l.yielded ++ into_iter_items l.answer-iterator;
  count : into_iter_len l.answer-iterator ≡ length (into_iter_items l.answer-iterator);
}
