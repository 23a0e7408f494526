-- The end of a run of the program.
use Rattle.std.specs.Prelude.{ℕ, Result, Ok, Err}
use Rattle.mp4_remux_files.specs.declared.refusal.Stop.{Stop}
use Rattle.mp4_remux_files.specs.declared.refusal.Stop.TheVariants as stops
use Rattle.mp4_remux_program.specs.declared.outcome.Outcome.{Outcome}
use Rattle.mp4_remux_program.specs.declared.outcome.Outcome.TheVariants as outcomes

-- the outcome of a run that writes a file
abbrev pub outcome_of : {A : Type 0} → Result A Stop → Outcome
outcome_of (Ok _) = outcomes.Written
outcome_of (Err (stops.Refused r)) = outcomes.Refused
outcome_of (Err (stops.Failed f)) = outcomes.Failed

-- the exit status of an outcome
abbrev pub status_of : Outcome → ℕ
status_of outcomes.Written = 0
status_of outcomes.Refused = 1
status_of outcomes.Misused = 2
status_of outcomes.Failed = 3
