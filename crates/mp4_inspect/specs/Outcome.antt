-- The end of a run of the program.
use Rattle.std.specs.Prelude.{ℕ, Bool, true, false, Result, Ok, Err, if◌then◌else◌}
use Rattle.mp4_inspect.specs.declared.outcome.Outcome.{Outcome}
use Rattle.mp4_inspect.specs.declared.outcome.Outcome.TheVariants as outcomes
use Rattle.mp4_io.specs.declared.failure.Failure.{Failure}
use Rattle.mp4_io.specs.declared.failure.Failure.TheVariants as failures

-- a failed write is not reported if the pipe of the output is closed, since its reader wants no more
abbrev pub is_silent : Bool → Failure → Bool
is_silent closed failures.Write = closed
is_silent closed failures.Read = false
is_silent closed failures.Memory = false

-- the outcome of a run that a failure ends: it fails by any failure that is reported
abbrev pub outcome_of_failure : Bool → Failure → Outcome
outcome_of_failure closed failure = if is_silent closed failure then outcomes.Sound else outcomes.Failed

-- the outcome of a run over a file
abbrev pub outcome_of : Bool → Result Bool Failure → Outcome
outcome_of closed (Ok false) = outcomes.Sound
outcome_of closed (Ok true) = outcomes.Faulty
outcome_of closed (Err failure) = outcome_of_failure closed failure

-- the exit status. A misuse is 2, which is not an outcome
abbrev pub status_of : Outcome → ℕ
status_of outcomes.Sound = 0
status_of outcomes.Faulty = 1
status_of outcomes.Failed = 3

-- the exit status of the command `diff`: 1 if the files differ, and 0 if not. Any failure is 2
abbrev pub diff_status : Bool → ℕ
diff_status differ = if differ then 1 else 0
