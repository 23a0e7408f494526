-- The stored positions are the end of the file and those of the boxes so far.
use Rattle.std.proofs.Common.{◌≡◌, ℕ, ◌^◌, ◌<◌, take}
use Rattle.std.specs.Prelude.{is_some}
use Rattle.std.specs.BTreeMap.{get}
use Rattle.std.specs.Ordering.{nat_cmp}
use Rattle.mp4_check.specs.Indexes.{is_start}
use Rattle.mp4_check.proofs.indexes.starts_of.Given as goal

abbrev pub invariant-loop-found : goal.invariant-loop-found
invariant-loop-found l = (p : ℕ) → p < 2 ^ 64
    → is_some (get nat_cmp l.positions p) ≡ is_start (take l.found-index l.boxes) l.length p
