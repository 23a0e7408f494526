-- The answers of the moofs before this one don't concern the track by an error, and its fragments among them are taken.
use Rattle.std.proofs.Common.{◌≡◌, [], ◌++◌, length}
use Rattle.std.specs.Vec.Iter.{into_iter_items, into_iter_len}
use Rattle.mp4_c.specs.FragmentSamples.{AppendsOwn, answers_of}
use Rattle.mp4_c.proofs.fragment_samples.own_fragments.Given as goal

abbrev pub invariant-loop-moof : goal.invariant-loop-moof
invariant-loop-moof l = record {
  taken : AppendsOwn l.track_id (answers_of l.yielded) [] l.own.items;
  left : l.fn.moofs.items ≡ l.yielded ++ into_iter_items l.moof-iterator;
  count : into_iter_len l.moof-iterator ≡ length (into_iter_items l.moof-iterator);
}
