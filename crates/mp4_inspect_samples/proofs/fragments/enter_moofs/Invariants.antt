-- The moofs that are left are entered after those of the file before them.
use Rattle.std.proofs.Common.{◌≡◌, length}
use Rattle.std.specs.Prelude.{IfSome}
use Rattle.std.specs.Vec.Iter.{into_iter_items, into_iter_len}
use Rattle.mp4_inspect_samples.proofs.TrafLists.{MoofsSoFar}
use Rattle.mp4_inspect_samples.proofs.fragments.enter_moofs.Given as goal

abbrev pub invariant-loop-moof : goal.invariant-loop-moof
invariant-loop-moof g l = record {
  kept : l.walk ≡ l.fn.walk;
  so_far : IfSome l.fn.walk.bytes (λ file. MoofsSoFar file l.boxes l.fn.moofs.items l.fn.fragments l.fn.faults.items
      l.rest (into_iter_items l.moof-iterator) l.fragments l.faults.items);
  count : into_iter_len l.moof-iterator ≡ length (into_iter_items l.moof-iterator);
}
