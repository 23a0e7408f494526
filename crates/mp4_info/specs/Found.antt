-- The values of boxes, as far as they can be read.
use Rattle.std.specs.Prelude.{ℕ, List, Result, Ok, Err, None, Some}
use Rattle.std.specs.declared.option.Option.{Option}
use Rattle.mp4_frame.specs.Reading.{Fault, Reading}
use Rattle.mp4_movie.specs.Levels.{Found}
use Rattle.mp4_movie.specs.Reads.{own_reading}

abbrev pub readable : {A : Type 0} → Result A Fault → Option A
readable (Ok v) = Some v
readable (Err _) = None

-- the value of a box that was found, unless it has a fault
abbrev pub found : {A : Type 0} → (List ℕ → ℕ → ℕ → Reading A) → List ℕ → Option Found → Option A
found reads file None = None
found reads file (Some f) = readable (own_reading reads file f.box).outcome
