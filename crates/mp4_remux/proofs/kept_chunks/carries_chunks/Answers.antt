use Rattle.std.proofs.Common.{rules, arith}
use Rattle.std.proofs.lemmas.List.{get_or_default}
use Rattle.mp4_samples.specs.Samples.{offsets_of}
use Rattle.mp4_remux.proofs.ChunkSamples.{carries_more}
use Rattle.mp4_remux.proofs.kept_chunks.carries_chunks.Goals as goal

pub loop-index-preserved : goal.loop-index-preserved
loop-index-preserved c =
    carries_more c.args.plan.now c.args.chunks.now (offsets_of c.args.offsets) c.loop-index.index _ c.in-Some.offset
    (omega (arith, c.loop-index-test.true)) (search (rules, get_or_default)) c.in-Some.ensures
    (c.carries.ensures.0 c.if-not-carries.false) c.loop-index.invariant
