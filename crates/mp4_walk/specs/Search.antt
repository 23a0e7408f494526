-- The progress of a search for the box at a path.
use Rattle.std.specs.Prelude.{ℕ, ◌+◌, ◌-◌, List, [], ◌∷◌, drop, None, Some}
use Rattle.std.specs.declared.option.Option.{Option}
use Rattle.mp4_walk.specs.Paths.{inside, or_in, of_nth, at_path}
use Rattle.mp4_walk.specs.declared.path.PathPart.{PathPart}
use Rattle.mp4_walk.specs.declared.search.Search.{Search}
use Rattle.mp4_walk.specs.declared.search.SearchStep.{SearchStep}
use Rattle.mp4_walk.specs.declared.search.SearchStep.TheVariants as steps
use Rattle.mp4_walk.specs.declared.tree_box.TreeBox.{TreeBox}

-- the result of a search for the remaining parts of a path, after `before` boxes with the code of the first of them
abbrev pub at_rest : ℕ → ℕ → List PathPart → List TreeBox → Option TreeBox
at_rest d before [] boxes = None
at_rest d before (part ∷ parts) boxes =
    of_nth (or_in (λ xs. at_path (d + 1) parts (inside (d + 1) xs)) parts) d part.code (part.index - before) boxes

-- the result of a search in the remaining boxes
abbrev pub sought : List PathPart → Search → List TreeBox → Option TreeBox
sought path s boxes = at_rest s.depth s.before (drop s.depth path) (inside s.depth boxes)

-- the result of a search after a step at the next box
abbrev pub sought_after : List PathPart → SearchStep → TreeBox → List TreeBox → Option TreeBox
sought_after path steps.Found x xs = Some x
sought_after path steps.Nowhere x xs = None
sought_after path (steps.On s) x xs = sought path s xs
