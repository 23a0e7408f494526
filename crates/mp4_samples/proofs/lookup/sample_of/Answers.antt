use Rattle.std.proofs.Common.{arith}
use Rattle.mp4_samples.proofs.LastSync.{sorted}
use Rattle.mp4_samples.proofs.lookup.sample_of.Goals as goal

pub count_at_most-requires-2 : goal.count_at_most-requires-2
count_at_most-requires-2 c = rw c.stss_entries.ensures (sorted _ c.requires.consistent.sync)

pub next_state-requires-clause-at : goal.next_state-requires-clause-at
next_state-requires-clause-at c = record {
  consistent = c.requires.consistent;
  within = omega arith;
  chunk = record {
    by = rw c.as_slice.ensures at c.chunk_mark.ensures.at;
    from = c.chunk_mark.ensures.from;
    within = omega (arith, c.chunk_mark.ensures.within, c.chunk_count-count.ensures);
    here = λ lt. absurd (omega arith);
  };
  time = rw c.as_slice-2.ensures at (c.time_mark.ensures.at c.args.number
      (λ some. c.count_at_most-started.ensures.low _ (omega (arith, some))));
  offset = rw c.ctts_entries.ensures at (c.run_mark.ensures.at c.args.number
      (λ some. c.count_at_most.ensures.low _ (omega (arith, some))));
  sync = rw c.stss_entries.ensures at c.count_at_most-2.ensures;
}
