use Rattle.std.proofs.Common.{◌≡◌, List, false, refl, ap, subst, ◌∙◌}
use Rattle.std.specs.Prelude.{IsOk}
use Rattle.mp4_samples.specs.ChunkExtents.{chunks_of}
use Rattle.mp4_samples.specs.Samples.{offsets_of}
use Rattle.mp4_samples.specs.declared.chunks.ChunkExtent.{ChunkExtent}
use Rattle.mp4_remux.specs.KeptChunks.{CarriesChunks}
use Rattle.mp4_remux.proofs.ChunkSamples.{all_kept}
use Rattle.mp4_remux.proofs.kept_chunks.keeps_tables.Goals as goal

pub returns-in-Ok-chunks : goal.returns-in-Ok-chunks
returns-in-Ok-chunks c = λ yes.
    let list = c.deref.ensures.value ∙ c.in-Ok-chunks.ensures.items ∙ ap chunks_of c.in-Ok.ensures.ok in
    let carried = subst
    (λ (es : List ChunkExtent). CarriesChunks c.args.plan.now es (offsets_of c.tables-after.result.chunk_offsets)) list
    (c.carries_chunks.ensures yes) in
    let no : c.is_err.result ≡ false = c.if-is_err.false in
    let agrees : IsOk c.new-2.result = rw no at c.is_err.ensures.negation in
    all_kept c.args.were.now c.args.are.now c.tables-before.result c.tables-after.result c.tables-before.ensures
    c.tables-after.ensures (c.have_same_tables.ensures c.if-not-have_same_tables.false) c.args.plan.now carried
    (c.in-Ok.ensures.exact.0 refl) c.args.old c.args.new c.requires.old c.requires.new (c.new-2.ensures.exact.0 agrees)
