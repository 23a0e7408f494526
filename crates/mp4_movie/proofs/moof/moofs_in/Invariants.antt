-- The answers in the list, followed by those for the remaining moofs, are the answers for all moofs.
use Rattle.std.proofs.Common.{◌≡◌, ℕ, length}
use Rattle.std.specs.BTreeMap.{get}
use Rattle.std.specs.Ordering.{nat_cmp}
use Rattle.std.specs.Prelude.{IfSome}
use Rattle.mp4_movie.proofs.Moofs.{MoofsSoFar}
use Rattle.mp4_movie.proofs.moof.moofs_in.Given as goal

abbrev pub invariant-moofs : goal.invariant-moofs
invariant-moofs g l = record {
  kept : l.walk ≡ l.fn.walk;
  so_far : IfSome l.fn.walk.bytes (λ file.
      MoofsSoFar file (λ (q : ℕ). get nat_cmp l.defaults q) l.boxes l.rest l.moofs.items);
}

abbrev pub decreases-moofs : goal.decreases-moofs
decreases-moofs g l = length l.rest
