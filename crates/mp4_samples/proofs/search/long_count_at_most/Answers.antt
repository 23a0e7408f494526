use Rattle.std.proofs.Common.{leb, leb-true, arith, rules}
use Rattle.std.proofs.lemmas.Bool.{leb-false}
use Rattle.std.proofs.lemmas.List.Sorted.{IsPartitionPoint-from_clause, IsPartitionedBy-leb}
use Rattle.mp4_samples.proofs.search.long_count_at_most.Goals as goal

pub returns : goal.returns
returns c =
    let parted = IsPartitionedBy-leb (λ x. x) _ c.args.limit c.requires in
    let point = IsPartitionPoint-from_clause (λ x. leb x c.args.limit) _ _ c.partition_point.ensures.partitioned parted
    (λ a r q k. search rules) in
    record {
      within = c.partition_point.ensures.bound;
      low = λ i lt. leb-true _ _ (point.0 i 0 (omega arith) lt);
      high = λ i le lt. leb-false _ _ (point.1 i 0 le lt);
    }
