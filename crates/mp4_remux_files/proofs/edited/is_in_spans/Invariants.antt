-- The byte is in no span that is passed.
use Rattle.std.proofs.Common.{◌≡◌, drop}
use Rattle.mp4_remux_files.specs.EditedMovie.{is_in_spans}
use Rattle.mp4_remux_files.proofs.edited.is_in_spans.Given as goal

abbrev pub invariant-loop-span : goal.invariant-loop-span
invariant-loop-span l = is_in_spans (drop l.span-index l.spans) l.at ≡ is_in_spans l.spans l.at
