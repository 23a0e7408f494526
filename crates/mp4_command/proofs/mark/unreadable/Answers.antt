use Rattle.std.proofs.Common.{IfNone, MatchOption, None, Some, rules}
use Rattle.std.specs.declared.option.Option.{Option}
use Rattle.mp4_command.proofs.mark.unreadable.Goals as goal

-- The clause for a result without a value.
of_none : {A : Type 0} (r : Option A) (N : Type 0) (S : A → Type 0) → MatchOption r N S → IfNone r N
of_none None N S cases = cases
of_none (Some x) N S cases = search rules

pub returns-clause-none : goal.returns-clause-none
unfolding lib.Utf8.encode
returns-clause-none c = of_none c.strip_suffix.result _ _ c.strip_suffix.ensures.cases
