use Rattle.mp4_info.proofs.Clauses.{samples_known}
use Rattle.mp4_info.proofs.facts.samples_in.Goals as goal

pub returns-clause-value : goal.returns-clause-value
returns-clause-value g c =
    samples_known c.args.walk.now.bytes c.args.stbl.now c.args.id c.args.timescale c.args.fragments.now
    c.in_ok-tables.tables c.in_ok-facts.facts c.in_ok-facts.ensures c.in_ok-tables.ensures.value
