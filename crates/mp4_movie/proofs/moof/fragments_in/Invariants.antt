-- The answers in the list, followed by those for the remaining trafs, are the answers for all trafs.
use Rattle.std.proofs.Common.{◌≡◌, ℕ, length}
use Rattle.std.specs.BTreeMap.{get}
use Rattle.std.specs.Ordering.{nat_cmp}
use Rattle.std.specs.Prelude.{IfSome}
use Rattle.mp4_movie.proofs.Moofs.{StepsSoFar}
use Rattle.mp4_movie.proofs.moof.fragments_in.Given as goal

abbrev pub invariant-trafs : goal.invariant-trafs
invariant-trafs g l = record {
  kept : l.walk ≡ l.fn.walk;
  so_far : IfSome l.fn.walk.bytes (λ file.
      StepsSoFar file (λ (q : ℕ). get nat_cmp l.defaults q) l.moof l.boxes l.end l.rest l.fragments.items);
}

abbrev pub decreases-trafs : goal.decreases-trafs
decreases-trafs g l = length l.rest
