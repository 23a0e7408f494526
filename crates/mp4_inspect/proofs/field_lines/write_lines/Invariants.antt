-- The lines of the earlier boxes are written.
use Rattle.std.proofs.Common.{◌≡◌, take, Ok}
use Rattle.std.specs.Prelude.{IfSome}
use Rattle.mp4_inspect.specs.FieldLines.{TellsLine}
use Rattle.mp4_inspect.specs.InTurn.{WritesInTurn}
use Rattle.mp4_inspect.proofs.field_lines.write_lines.Given as goal

abbrev pub invariant-loop-found : goal.invariant-loop-found
invariant-loop-found g l = record {
  written : IfSome l.initial.walk.bytes
      (λ bytes. WritesInTurn (TellsLine g.B.Shown.known g.B.Shown.named_reading g.B.BoxFields.shown l.field bytes)
      (take l.found-index l.chosen)
      (g.W.Write.contents l.initial.output.inner) (g.W.Write.contents l.output.inner) (Ok l.any));
  mark : l.output.failed ≡ l.initial.output.failed;
  kept : l.walk ≡ l.initial.walk;
}
