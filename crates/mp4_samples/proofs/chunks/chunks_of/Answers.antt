use Rattle.std.proofs.Common.{◌≡◌, ℕ, ◌+◌, ◌-◌, List, slice_index, refl, ap, arith}
use Rattle.mp4_tables.specs.declared.stsc_entry.StscEntry.{StscEntry}
use Rattle.mp4_tables.specs.declared.stsz.StszBox.{StszBox}
use Rattle.mp4_samples.specs.ChunkExtents.{chunk_at, samples_before}
use Rattle.mp4_samples.specs.Samples.{offsets_of}
use Rattle.mp4_samples.specs.Sizes.{bytes_of}
use Rattle.mp4_samples.proofs.Bytes.{through_zero}
use Rattle.mp4_samples.proofs.Pushed.{listed_push}
use Rattle.mp4_samples.proofs.Through.{by_front, through_more}
use Rattle.mp4_samples.proofs.chunks.chunks_of.Goals as goal

chunk_is : (z : StszBox) (es : List StscEntry) (offsets : List ℕ) (k first end offset size : ℕ)
    → first ≡ samples_before z es k → end ≡ samples_before z es (k + 1) → offset ≡ slice_index offsets k
    → size ≡ bytes_of z first (end - first)
    → record { offset = offset; size = size } ≡ chunk_at z es offsets (k + 1)
chunk_is z es offsets k first end offset size from to at bytes =
    let back : k + 1 - 1 ≡ k = omega arith in
    rw (back, bytes, at, from, to) refl

pub chunks-init : goal.chunks-init
chunks-init c =
    let es = c.args.tables.now.stsc.now.entries in
    let none = through_zero es in
    rw c.before_chunks-place.ensures (record {
      by = by_front es c.requires.increase;
      begun = omega arith;
      later = c.requires.increase;
      first = omega (arith, none);
      long = omega (arith, c.in_ok-chunks.ensures.len);
      room = omega (arith, c.in_ok-chunks.ensures.exact, c.chunk_count-count.ensures);
      items = c.in_ok-chunks.ensures.items;
    })

pub chunks-preserved : goal.chunks-preserved
chunks-preserved c =
    let t = c.args.tables.now in
    let z = t.stsz.now in
    let es = t.stsc.now.entries in
    let offsets = offsets_of t.chunk_offsets in
    let l = c.chunks in
    let inv = l.invariant in
    let at = rw c.as_slice-runs.ensures at c.place_at-place.ensures in
    let pushed = c.push_reserved.ensures in
    let more = through_more es l.index (l.index + 1) refl in
    let each = ap (λ (e : StscEntry). e.samples_per_chunk) at.entry in
    let first : c.samples_through_next-end.result ≡ samples_before z es (l.index + 1) =
    omega (arith, more, each, inv.first, c.samples_through_next-end.ensures) in
    record {
      by = at.at;
      begun = at.begun;
      later = at.later;
      first = first;
      long = omega (arith, pushed.len, inv.long);
      room = omega (arith, pushed.capacity, inv.room);
      items = listed_push (chunk_at z es offsets) 1 l.index (l.index + 1) (l.index + 1) _ l.chunks.items _ pushed.items
          inv.items (chunk_is z es offsets l.index l.first _ _ _ inv.first first c.chunk_offset.ensures
          c.bytes_between.ensures) (omega arith) refl;
    }
