-- The remaining steps and parts decide.
use Rattle.std.proofs.Common.{◌≡◌, drop, length}
use Rattle.mp4_inspect.specs.Patterns.{accepts_all}
use Rattle.mp4_inspect.proofs.pattern.accepts_all.Given as goal

abbrev pub invariant-steps : goal.invariant-steps
invariant-steps l = record {
  same : length l.steps ≡ length l.path;
  so_far : accepts_all (drop l.index l.steps) (drop l.index l.path) ≡ accepts_all l.steps l.path;
}
