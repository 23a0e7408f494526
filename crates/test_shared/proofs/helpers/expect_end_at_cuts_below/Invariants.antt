use Rattle.std.proofs.Common.{ℕ, ◌<◌, ◌≤◌}
use Rattle.test_shared.specs.Checks.{EndsIn, ReadsAs, cut_reading}
use Rattle.test_shared.specs.declared.helpers.outcomes.Kind.TheVariants as kinds
use Rattle.test_shared.proofs.helpers.expect_end_at_cuts_below.Given as goal

abbrev pub invariant-loop-length : goal.invariant-loop-length
invariant-loop-length g l = record {
  ends : (n : ℕ) → n < l.length → n < l.needed → EndsIn kinds.End (cut_reading g.B.ReadBox.reads l.out.items n);
  values : (n : ℕ) → n < l.length → l.needed ≤ n
      → ReadsAs g.B.PartialEq.eq (cut_reading g.B.ReadBox.reads l.out.items n) l.value;
}
