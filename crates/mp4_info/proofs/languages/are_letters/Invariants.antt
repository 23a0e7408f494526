-- All bytes before the index are letters.
use Rattle.std.proofs.Common.{◌≡◌, drop}
use Rattle.mp4_info.specs.Languages.{are_letters}
use Rattle.mp4_info.proofs.languages.are_letters.Given as goal

abbrev pub invariant-loop-index : goal.invariant-loop-index
invariant-loop-index l = are_letters l.bytes ≡ are_letters (drop l.index l.bytes)
