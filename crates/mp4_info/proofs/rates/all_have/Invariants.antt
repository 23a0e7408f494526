-- All entries before the index have the duration.
use Rattle.std.proofs.Common.{◌≡◌, drop}
use Rattle.mp4_info.specs.Rates.{all_have}
use Rattle.mp4_info.proofs.rates.all_have.Given as goal

abbrev pub invariant-loop-index : goal.invariant-loop-index
invariant-loop-index l = all_have l.delta l.entries ≡ all_have l.delta (drop l.index l.entries)
