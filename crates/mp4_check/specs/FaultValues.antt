-- A fault as a value: the position and the path of the box that has it, and what is wrong. What a reader of the library
-- said about it only adds words.
use Rattle.std.specs.Prelude.{ℕ, List, [], ◌∷◌, None, Some, map}
use Rattle.std.specs.declared.option.Option.{Option}
use Rattle.mp4_check.specs.declared.fault.Fault.{Fault}
use Rattle.mp4_check.specs.declared.fault.What.{What}
use Rattle.mp4_content.specs.declared.path.Part.{Part}

pub record Value : Type 0 where
  pub position : ℕ
  pub path : List Part
  pub what : What

abbrev pub value_of : Fault → Value
value_of f = record { position = f.position; path = f.path.items; what = f.what }

abbrev pub values_of : List Fault → List Value
values_of fs = map value_of fs

-- the fault of a box, if it has one
abbrev pub fault_at : ℕ → List Part → Option What → List Value
fault_at position path None = []
fault_at position path (Some what) = record { position = position; path = path; what = what } ∷ []
