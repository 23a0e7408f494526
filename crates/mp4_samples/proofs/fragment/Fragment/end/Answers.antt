use Rattle.std.proofs.Common.{◌<◌, ◌^◌, arith, rules}
use Rattle.std.proofs.lemmas.Int.{ints}
use Rattle.mp4_samples.proofs.Fragments.{no_runs_end}
use Rattle.mp4_samples.proofs.fragment.Fragment.end.Goals as goal

pub runs-init : goal.runs-init
runs-init c =
    let none = no_runs_end c.args.self.now in
    let small : c.base_of.result < 2 ^ 64 = search rules in
    record {
      within = omega arith;
      end = omega (arith, ints, none, small, c.from.ensures, c.base_of.ensures);
      low = omega (arith, ints, small, c.from.ensures);
      high = omega (arith, ints, small, c.from.ensures);
    }
