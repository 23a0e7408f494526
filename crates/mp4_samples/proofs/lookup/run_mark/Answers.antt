use Rattle.std.proofs.Common.{◌-◌, arith}
use Rattle.mp4_samples.proofs.RunSums.{at_front}
use Rattle.mp4_samples.proofs.lookup.run_mark.Goals as goal

pub returns-then-marked-eq0-clause-at : goal.returns-then-marked-eq0-clause-at
returns-then-marked-eq0-clause-at g c = λ k low. at_front g.R.Run.count c.args.entries.now k

pub returns-clause-at : goal.returns-clause-at
returns-clause-at g c = λ k low. record {
  within = omega (arith, c.requires.firsts.within, c.requires.within);
  first = c.requires.firsts.is (c.args.marked - 1) (omega (arith, c.requires.within));
  begun = low (omega arith);
}
