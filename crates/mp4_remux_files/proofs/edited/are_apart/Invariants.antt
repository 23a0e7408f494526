-- If the spans that are left are apart, all are.
use Rattle.std.proofs.Common.{drop}
use Rattle.mp4_remux_files.specs.EditedMovie.{AreApart}
use Rattle.mp4_remux_files.proofs.edited.are_apart.Given as goal

abbrev pub invariant-loop-span : goal.invariant-loop-span
invariant-loop-span l = AreApart l.at (drop l.span-index l.spans) → AreApart 0 l.spans
