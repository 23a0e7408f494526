use Rattle.std.proofs.Common.{◌-◌, ◌≤◌, arith}
use Rattle.mp4_samples.proofs.BlockSums.{all_fit}
use Rattle.mp4_samples.proofs.Bytes.{bytes_within}
use Rattle.mp4_samples.proofs.state.chunk_of.Goals as goal

pub bytes_from-requires-clause-fits : goal.bytes_from-requires-clause-fits
bytes_from-requires-clause-fits c = all_fit c.args.tables c.requires.consistent

pub bytes_from-requires-clause-order : goal.bytes_from-requires-clause-order
bytes_from-requires-clause-order c = omega (arith, c.found_in-found.ensures.chunk.from, c.found_in-found.ensures.first)

pub overflow_add-result-2 : goal.overflow_add-result-2
overflow_add-result-2 c =
    let z = c.args.tables.stsz.now in
    let found = c.found_in-found in
    let from = found.ensures.chunk.from in
    let le : found.result.first ≤ c.args.number = omega (arith, from, found.ensures.first) in
    let room = c.requires.consistent.within (found.result.chunk - 1) 0
    (omega (arith, found.ensures.begun, found.ensures.within, c.chunk_count-count.ensures)) in
    let part = bytes_within z found.result.first (c.args.number - found.result.first) z.sample_count
    (omega (arith, le, c.requires.more)) in
    omega (arith, room, part, c.chunk_offset.ensures, c.bytes_from.ensures)

pub returns-clause-at : goal.returns-clause-at
returns-clause-at c =
    let entries = c.as_slice-runs.ensures in
    let place = rw entries at c.place_of-place.ensures in
    let found = c.found_in-found.ensures in
    let first = rw entries at found.first in
    let end = rw entries at found.end in
    record {
      by = place.by;
      from = place.from;
      within = omega (arith, place.order, place.within, c.chunk_count-count.ensures);
      here = λ _. record {
        chunk = rw entries at found.chunk;
        entry = rw entries at found.entry;
        begun = found.begun;
        within = omega (arith, found.within, c.chunk_count-count.ensures);
        end = omega (arith, end, c.from.ensures, c.from-2.ensures);
        position = rw (← first) (omega (arith, c.chunk_offset.ensures, c.bytes_from.ensures));
      };
    }

pub returns-clause-some : goal.returns-clause-some
returns-clause-some c =
    let found = c.found_in-found.ensures in
    omega (arith, found.end, found.chunk.below, c.from.ensures, c.from-2.ensures)
