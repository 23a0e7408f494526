use Rattle.std.proofs.Common.{arith}
use Rattle.std.proofs.lemmas.Int.{ints}
use Rattle.mp4_samples.specs.Fragments.{run_at}
use Rattle.mp4_samples.proofs.Fragments.{no_time, no_runs_end, no_runs_time}
use Rattle.mp4_samples.proofs.fragment_place.first_place.Goals as goal

pub returns-clause-at : goal.returns-clause-at
returns-clause-at c =
    let f = c.args.fragment.now in
    let end = no_runs_end f in
    let none = no_runs_time f in
    let none' = no_time f (run_at f 0) in
    record {
      within = omega arith;
      counted = omega arith;
      offset = omega (arith, ints, end, c.from.ensures, c.base_of.ensures);
      time = omega (arith, none, none', c.start_of.ensures);
    }
