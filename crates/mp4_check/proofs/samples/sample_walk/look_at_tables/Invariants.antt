-- The samples before the next one are looked at.
use Rattle.std.proofs.Common.{◌≡◌, ◌≤◌}
use Rattle.std.specs.Prelude.{IfSome}
use Rattle.mp4_check.specs.Looked.{LooksTo, nothing}
use Rattle.mp4_check.proofs.samples.sample_walk.look_at_tables.Given as goal
use Rattle.mp4_samples.specs.Samples.{IsSample, sample_count}

abbrev pub invariant-loop : goal.invariant-loop
invariant-loop g l = record {
  kept : l.walk ≡ l.fn.walk;
  tables : l.samples.tables ≡ l.tables;
  within : l.samples.number ≤ sample_count l.tables;
  looks : IfSome l.fn.walk.bytes (λ file.
      LooksTo (IsSample l.tables) file l.kinds (nothing l.left) l.samples.number l.looked);
}
