use Rattle.std.proofs.Common.{◌≡◌, ◌∷◌, drop, get_or}
use Rattle.mp4_samples.specs.Runs.{increases}
use Rattle.mp4_samples.proofs.checks.numbers_out_of_order.Given as goal

abbrev pub invariant-loop-number : goal.invariant-loop-number
invariant-loop-number l = record {
  rest : increases l.last (drop l.number-index l.numbers) ≡ increases 0 l.numbers;
  counted : l.index ≡ l.number-index;
  before : l.last ≡ get_or (0 ∷ l.numbers) l.number-index 0;
}
