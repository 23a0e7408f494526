use Rattle.std.proofs.Common.{sym, arith}
use Rattle.mp4_info.proofs.TableEnds.{end_all, end_within}
use Rattle.mp4_info.proofs.table_ends.end_after.Goals as goal

pub returns-then-passed-entries : goal.returns-then-passed-entries
returns-then-passed-entries c =
    let all = end_within c.args.count c.args.entries.now c.args.passed c.requires.counts c.requires.few
    c.if-passed-entries.true (c.requires.rest c.if-passed-entries.true) in
    grind (arith, all)

pub returns-else-passed-entries : goal.returns-else-passed-entries
returns-else-passed-entries c =
    sym (end_all c.args.count c.args.entries.now c.args.passed c.requires.counts c.requires.few
    c.if-passed-entries.false)
