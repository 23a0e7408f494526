use Rattle.std.proofs.Common.{arith}
use Rattle.std.proofs.lemmas.Option.{IfSome_then}
use Rattle.mp4_samples.proofs.LastSync.{IfNone_then, by_covering, none_by_covering, after_all, none_after_all}
use Rattle.mp4_samples.proofs.syncs.last_sync_at.Goals as goal

pub returns-in-Some-clause-some : goal.returns-in-Some-clause-some
returns-in-Some-clause-some c =
    let covers = rw c.in-Some.is at c.requires.covers in
    IfSome_then c.last_sync.result c.last_sync.ensures.some
    (λ k l. by_covering c.args.tables.now c.args.time c.in-Some.number k covers l)

pub returns-in-Some-clause-none : goal.returns-in-Some-clause-none
returns-in-Some-clause-none c =
    let covers = rw c.in-Some.is at c.requires.covers in
    IfNone_then c.last_sync.result c.last_sync.ensures.none
    (λ l. none_by_covering c.args.tables.now c.args.time c.in-Some.number covers l)

pub returns-in-None-clause-some : goal.returns-in-None-clause-some
returns-in-None-clause-some c =
    let ended = rw c.in-None.is at c.requires.none in
    IfSome_then c.last_sync-in-None.result c.last_sync-in-None.ensures.some
    (λ k l. after_all c.args.tables.now c.args.time _ k (omega arith) ended l)

pub returns-in-None-clause-none : goal.returns-in-None-clause-none
returns-in-None-clause-none c =
    IfNone_then c.last_sync-in-None.result c.last_sync-in-None.ensures.none
    (λ l. none_after_all c.args.tables.now c.args.time _ (omega arith) l)
