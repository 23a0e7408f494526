-- The first samples before the index agree, and those that are left decide.
use Rattle.mp4_show.specs.TakenTables.{firsts_agree}
use Rattle.mp4_show.proofs.TakenFirsts.{AreCompared}
use Rattle.mp4_show.proofs.taken.chunks.check_firsts.Given as goal

abbrev pub invariant-loop-index : goal.invariant-loop-index
invariant-loop-index l = AreCompared l.name l.entries l.runs (firsts_agree l.name 0 l.entries l.runs) l.index
