-- The units before the current position end within the sample.
use Rattle.std.proofs.Common.{◌≡◌, ◌-◌}
use Rattle.std.specs.Prelude.{IfSome}
use Rattle.mp4_check.specs.Blocks.{IsBlock}
use Rattle.mp4_check.proofs.PassedUnits.{LeftFrom}
use Rattle.mp4_check.proofs.samples.units.past_unit.Given as goal

abbrev pub invariant-units : goal.invariant-units
invariant-units g l = record {
  kept : l.walk ≡ l.fn.walk;
  block : IfSome l.fn.walk.bytes (λ file. IsBlock file l.block);
  left : IfSome l.fn.walk.bytes (λ file. LeftFrom file l.width l.begin l.end l.at);
}

abbrev pub decreases-units : goal.decreases-units
decreases-units g l = l.end - l.at
