-- The box at a path, among the boxes of a file in order.
use Rattle.std.specs.Prelude.{ℕ, ◌+◌, ◌-◌, ◌==◌, ◌&&◌, Bool, false, nat_lt, List, [], ◌∷◌, None, Some, if◌then◌else◌}
use Rattle.std.specs.declared.option.Option.{Option}
use Rattle.mp4_frame.specs.FourCC.{number_of}
use Rattle.mp4_frame.specs.declared.four_cc.FourCC.{FourCC}
use Rattle.mp4_walk.specs.declared.path.PathPart.{PathPart}
use Rattle.mp4_walk.specs.declared.tree_box.TreeBox.{TreeBox}

-- the descendants of a box among the boxes after it: all before the first box with a depth below d
abbrev pub inside : ℕ → List TreeBox → List TreeBox
inside d [] = []
inside d (x ∷ xs) = if nat_lt x.depth d then [] else x ∷ inside d xs

abbrev pub is_code : FourCC → Option FourCC → Bool
is_code code None = false
is_code code (Some c) = number_of c == number_of code

-- the box has this depth and code
abbrev pub is_meant : ℕ → FourCC → TreeBox → Bool
is_meant d code x = (x.depth == d) && is_code code x.code

-- the box if it is the last part of the path, else the box that is found inside it
abbrev pub or_in : (List TreeBox → Option TreeBox) → List PathPart → TreeBox → List TreeBox → Option TreeBox
or_in find [] x xs = Some x
or_in find (_ ∷ _) x xs = find xs

-- the result for the box with this depth and code that has k such boxes before it
abbrev pub of_nth : (TreeBox → List TreeBox → Option TreeBox) → ℕ → FourCC → ℕ → List TreeBox → Option TreeBox
of_nth found d code k [] = None
of_nth found d code k (x ∷ xs) =
    if is_meant d code x then (if k == 0 then found x xs else of_nth found d code (k - 1) xs) else of_nth found
    d code k xs

-- the box at a path whose first part has depth d. Each part selects a box by code and index within the box of the part
-- before
abbrev pub at_path : ℕ → List PathPart → List TreeBox → Option TreeBox
at_path d [] boxes = None
at_path d (part ∷ parts) boxes =
    of_nth (or_in (λ xs. at_path (d + 1) parts (inside (d + 1) xs)) parts) d part.code part.index boxes
