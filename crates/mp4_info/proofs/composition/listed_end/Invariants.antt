-- The end of all samples is that of the samples starting at the index, after the end that was found before them.
use Rattle.std.proofs.Common.{◌≡◌, drop}
use Rattle.mp4_info.specs.Composition.{listed_end}
use Rattle.mp4_info.proofs.composition.listed_end.Given as goal

abbrev pub invariant-loop-index : goal.invariant-loop-index
invariant-loop-index l =
    listed_end l.version l.default l.durations l.index l.time l.latest (drop l.index l.offsets)
    ≡ listed_end l.version l.default l.durations 0 0 0 l.offsets
