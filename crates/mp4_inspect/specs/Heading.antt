-- The heading of a file's tree.
use Rattle.std.specs.Prelude.{ℕ, Bool, List, [], ◌∷◌, ◌++◌, codes, if◌then◌else◌}
use Rattle.mp4_inspect.specs.declared.program.Show.{Show}

-- an empty line precedes the heading of every file except the first
abbrev pub break_before : Bool → List ℕ
break_before follows = if follows then 10 ∷ [] else []

-- the heading is present if there are several files: a line with the name and a colon
abbrev pub heading_of : Show → List ℕ → List ℕ
heading_of show name = if show.several then break_before show.follows ++ (name ++ (codes ":" ++ 10 ∷ [])) else []
