-- The exit status of the program, and the text that it writes to standard error.
use Rattle.std.specs.Prelude.{ℕ, List, [], ◌∷◌, ◌++◌, codes}
use Rattle.mp4_boxes.specs.declared.outcome.Outcome.{Outcome}
use Rattle.mp4_boxes.specs.declared.outcome.Outcome.TheVariants as outcomes
use Rattle.mp4_boxes.specs.Fault.{fault_text}

-- the exit status
abbrev pub status_of : Outcome → ℕ
status_of outcomes.Done = 0
status_of outcomes.Misused = 2
status_of (outcomes.Failed _) = 1

-- a text as a line, ended by a line feed
abbrev pub line : List ℕ → List ℕ
line text = text ++ 10 ∷ []

-- the text that is written to standard error
abbrev pub message_of : Outcome → List ℕ
message_of outcomes.Done = []
message_of outcomes.Misused = line (codes "usage: mp4boxes normal|list")
message_of (outcomes.Failed fault) = line (codes "mp4boxes: " ++ fault_text fault)
