-- No splice that is passed replaces the byte.
use Rattle.std.proofs.Common.{◌≡◌, drop}
use Rattle.std.specs.List.{list_any}
use Rattle.mp4_remux.specs.Splices.{has_byte}
use Rattle.mp4_remux.proofs.edits.splice.has_byte.Given as goal

abbrev pub invariant-loop-splice : goal.invariant-loop-splice
invariant-loop-splice l = list_any (has_byte l.at) (drop l.splice-index l.splices) ≡ list_any (has_byte l.at) l.splices
