use Rattle.std.proofs.Common.{◌≡◌, ◌+◌, ◌-◌, ◌*◌, ◌^◌, ◌<◌, get_or, refl, arith, rules}
use Rattle.mp4_samples.specs.Chunks.{no_entry}
use Rattle.mp4_samples.proofs.Through.{above, by_next}
use Rattle.mp4_samples.proofs.chunk_place.next_entry.Goals as goal

pub returns : goal.returns
returns c =
    let es = c.args.runs.now in
    let p = c.args.place in
    let r = c.requires in
    let product : c.from.result * c.from-2.result
    ≡ ((get_or es p.run no_entry).first_chunk - p.chunk) * p.entry.samples_per_chunk =
    rw (c.from.ensures, c.from-2.ensures) refl in
    let small : c.from-2.result < 2 ^ 32 = search rules in
    let few : p.entry.samples_per_chunk < 2 ^ 32 = omega (arith, small, c.from-2.ensures) in
    record {
      at = by_next es p r.within r.at (p.before + c.from.result * c.from-2.result) few (omega (arith, product));
      is = refl;
      later = above es p r.within r.at;
      grows = omega arith;
    }
