use Rattle.std.proofs.Common.{◌≡◌, ℕ, ◌+◌, ◌≤◌, List, get_or, refl, sym, ap, subst, arith}
use Rattle.std.specs.List.Sorted.{IsNonDecreasing}
use borrow.Author.Count.{below_more}
use Rattle.mp4_samples.specs.declared.chunk_place.ChunkPlace.{ChunkPlace}
use Rattle.mp4_samples.specs.Chunks.{no_entry}
use Rattle.mp4_samples.specs.Places.{GoesBy, place_at}
use Rattle.mp4_samples.proofs.Through.{by_front}
use Rattle.mp4_samples.proofs.Pushed.{each_push, long_push, order_push, order_none}
use Rattle.mp4_samples.proofs.marks.befores_of.Goals as goal

pub loop-place-init : goal.loop-place-init
loop-place-init c =
    let none = c.in_ok-befores.ensures.items in
    rw c.before_chunks-place.ensures (record {
      by = by_front c.args.runs.now c.requires;
      within = omega arith;
      long = omega (arith, c.in_ok-befores.ensures.len);
      items = rw none refl;
      room = omega (arith, c.in_ok-befores.ensures.exact);
      order = subst (λ (l : List ℕ). IsNonDecreasing l) (sym none) order_none;
      top = λ i lt. absurd (omega arith);
      is = λ i lt. absurd (omega arith);
      begun = λ i lt. absurd (omega arith);
    })

pub loop-place-preserved : goal.loop-place-preserved
loop-place-preserved c =
    let es = c.args.runs.now in
    let i = c.loop-place.place.run in
    let inv = c.loop-place.invariant in
    let old = c.loop-place.befores.items in
    let p = c.next_entry-place.result in
    let next = c.next_entry-place.ensures in
    let run : p.run ≡ i + 1 = ap (λ (p : ChunkPlace). p.run) next.is in
    let chunk = ap (λ (p : ChunkPlace). p.chunk) next.is in
    let push = c.push_reserved.ensures in
    let long = long_push c.push_reserved.new.self.items old p.before i push.items inv.items in
    record {
      by = next.at;
      within = omega (arith, chunk, c.if-runs-place.true);
      long = omega (arith, push.len, inv.long, run);
      items = omega (arith, long, run);
      room = omega (arith, push.capacity, inv.room);
      order = order_push _ old p.before i push.items inv.items inv.order
          (λ j lt. omega (arith, inv.top j lt, next.grows));
      top = λ j lt. each_push (λ j v. v ≤ p.before) _ old p.before i push.items inv.items
          (λ j lt. omega (arith, inv.top j lt, next.grows)) (omega arith) j (omega (arith, lt, run));
      is = λ j lt. each_push (λ j v. GoesBy es (place_at es j v)) _ old p.before i push.items inv.items inv.is
          (subst (λ (p : ChunkPlace). GoesBy es p) next.is next.at) j (omega (arith, lt, run));
      begun = λ j lt. below_more (λ (j : ℕ). (get_or es j no_entry).first_chunk ≤ c.args.count) i inv.begun
          c.if-runs-place.true j (omega (arith, lt, run));
    }
