use Rattle.std.proofs.Common.{refl, sym, ◌∙◌}
use Rattle.test_shared.proofs.Equality.{kind_equality}
use Rattle.test_shared.proofs.helpers.mismatches.expect_ending.Goals as goal

pub returns-then-eq : goal.returns-then-eq
returns-then-eq c = (
  (λ _. (kind_equality c.args.found c.args.expected).0 (sym c.eq.ensures ∙ c.if-eq.true)),
  (λ _. refl),
)
