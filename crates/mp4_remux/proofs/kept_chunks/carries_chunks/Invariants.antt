-- The chunks that are passed are carried.
use Rattle.mp4_samples.specs.Samples.{offsets_of}
use Rattle.mp4_remux.specs.KeptChunks.{CarriesFirst}
use Rattle.mp4_remux.proofs.kept_chunks.carries_chunks.Given as goal

abbrev pub invariant-loop-index : goal.invariant-loop-index
invariant-loop-index l = CarriesFirst l.plan l.chunks (offsets_of l.offsets) l.index
