-- The boxes of a file at a pattern of paths, and their bytes.
use Rattle.std.specs.Prelude.{ℕ, ◌+◌, ◌-◌, ◌==◌, ◌&&◌, not, Bool, true, false, List, [], ◌∷◌, ◌++◌, length, drop, map}
use Rattle.std.specs.Prelude.{flat_map, if◌then◌else◌}
use Rattle.mp4_content.specs.Paths.{Code, entered, parts_of}
use Rattle.mp4_content.specs.declared.path.Part.{Part}
use Rattle.mp4_content.specs.Pieces.{bytes_of_box}
use Rattle.mp4_inspect.specs.declared.get.Got.{Got}
use Rattle.mp4_inspect.specs.declared.get.Got.TheVariants as finds
use Rattle.mp4_inspect.specs.declared.pattern.Pattern.{Pattern}
use Rattle.mp4_inspect.specs.declared.pattern.Step.{Step}
use Rattle.mp4_inspect.specs.declared.pattern.Step.TheVariants as steps
use Rattle.mp4_walk.specs.FileBoxes.{boxes_of}
use Rattle.mp4_walk.specs.Paths.{inside, is_code}
use Rattle.mp4_walk.specs.declared.tree_box.TreeBox.{TreeBox}

-- a step accepts the box with this code and index: any box, each box with a code, or the one with a code and an index
abbrev pub accepts : Step → Part → Bool
accepts steps.Any part = true
accepts (steps.Each code) part = is_code code part.code
accepts (steps.One one) part = is_code one.code part.code && (part.index == one.index)

-- each step accepts the part of the path with its index, and no part is left
abbrev pub accepts_all : List Step → List Part → Bool
accepts_all [] [] = true
accepts_all (step ∷ rest) (part ∷ parts) = accepts step part && accepts_all rest parts
accepts_all _ _ = false

-- the number of parts of a path of n parts that come before the steps: none, unless any boxes may be around them
abbrev pub parts_before : Pattern → ℕ → ℕ
parts_before pattern n = if pattern.anywhere then n - length pattern.steps.items else 0

-- a pattern fits a path: its steps accept the parts after those
abbrev pub fits : Pattern → List Part → Bool
fits pattern path = accepts_all pattern.steps.items (drop (parts_before pattern (length path)) path)

-- what is taken of the boxes starting at each box at a pattern, in order; `opened` has the levels that are open before
-- the first box
abbrev pub taken_at : (List TreeBox → List TreeBox) → Pattern → List (List Code) → List TreeBox → List TreeBox
taken_at taken pattern opened [] = []
taken_at taken pattern opened (x ∷ xs) =
    (if fits pattern (parts_of (entered opened x)) then taken (x ∷ xs) else [])
    ++ taken_at taken pattern (entered opened x) xs

abbrev pub first_of : List TreeBox → List TreeBox
first_of [] = []
first_of (x ∷ xs) = x ∷ []

-- the boxes at a pattern
abbrev pub boxes_at : Pattern → List TreeBox → List TreeBox
boxes_at pattern boxes = taken_at first_of pattern [] boxes

-- a box as if the box around it of depth d were at the top level of a file
abbrev pub lifted : ℕ → TreeBox → TreeBox
lifted d x = record x { depth = x.depth - d }

-- the first box and the boxes inside it, as if it were at the top level of a file
abbrev pub tree_of : List TreeBox → List TreeBox
tree_of [] = []
tree_of (x ∷ xs) = lifted x.depth x ∷ map (lifted x.depth) (inside (x.depth + 1) xs)

-- the trees of the boxes at a pattern
abbrev pub trees_at : Pattern → List TreeBox → List TreeBox
trees_at pattern boxes = taken_at tree_of pattern [] boxes

-- the bytes of all boxes at a pattern, one after the other
abbrev pub bytes_at : Bool → Pattern → List ℕ → List ℕ
bytes_at content pattern file = flat_map (bytes_of_box content file) (boxes_at pattern (boxes_of file))

abbrev pub has_box : Pattern → List ℕ → Bool
has_box pattern file = not (length (boxes_at pattern (boxes_of file)) == 0)

-- what was found, by whether there is a box and whether a fault is shown
abbrev pub got_of : Bool → Bool → Got
got_of any faulty = if not any then finds.Nowhere else if faulty then finds.Faulty else finds.Sound
