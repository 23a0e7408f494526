-- The boxes of two files that have the same path.
use Rattle.std.specs.Prelude.{◌≡◌, ℕ, suc, ◌-◌, ◌==◌, ◌&&◌, not, nat_lt, nat_le, Bool, true, false, List, [], ◌∷◌}
use Rattle.std.specs.Prelude.{flat_map, length, map, take, None, Some, if◌then◌else◌, is_some}
use Rattle.std.specs.declared.option.Option.{Option}
use Rattle.std.specs.BTreeMap.{get_by}
use Rattle.std.specs.Cmp.Lexicographic.{slice_cmp}
use Rattle.std.specs.Ordering.{nat_cmp}
use Rattle.mp4_content.specs.Paths.{Code, code_key, entered, parts_of}
use Rattle.mp4_content.specs.declared.path.Part.{Part}
use Rattle.mp4_diff.specs.declared.pairs.Numbers.{Numbers}
use Rattle.mp4_walk.specs.declared.tree_box.TreeBox.{TreeBox}

-- the paths of boxes, in order; `opened` has the levels that are open before the first box
abbrev pub paths_from : List (List Code) → List TreeBox → List (List Part)
paths_from opened [] = []
paths_from opened (x ∷ xs) = parts_of (entered opened x) ∷ paths_from (entered opened x) xs

-- the paths of all boxes of a file
abbrev pub paths : List TreeBox → List (List Part)
paths boxes = paths_from [] boxes

-- the same codes with the same indexes
abbrev pub is_same_path : List Part → List Part → Bool
is_same_path [] [] = true
is_same_path (p ∷ ps) (q ∷ qs) =
    (code_key p.code == code_key q.code) && ((p.index == q.index) && is_same_path ps qs)
is_same_path _ _ = false

-- the number of the last box with this path, if there is one. No two boxes of a file have the same
abbrev pub later : Option ℕ → Bool → Option ℕ
later (Some n) here = Some (suc n)
later None true = Some 0
later None false = None

abbrev pub partner_in : List (List Part) → List Part → Option ℕ
partner_in [] path = None
partner_in (p ∷ ps) path = later (partner_in ps path) (is_same_path path p)

-- the partner of each box
abbrev pub partners_of : List (List Part) → List (List Part) → List (Option ℕ)
partners_of ps qs = map (partner_in qs) ps

-- the path of the box around
abbrev pub around : List Part → List Part
around path = take (length path - 1) path

-- the box around is one of the file, or the file itself
abbrev pub is_top : List (List Part) → List Part → Bool
is_top ps path = if nat_le (length path) 1 then true else is_some (partner_in ps (around path))

-- the least partner that may follow this box, or `None` if its own is less; d is the depth of the level
abbrev pub least_after : ℕ → ℕ → TreeBox → Option ℕ → Option ℕ
least_after d least x None = Some least
least_after d least x (Some n) = if not (x.depth == d) then Some least else if nat_lt n least then None else Some n

abbrev pub goes_on : (ℕ → Bool) → Option ℕ → Bool
goes_on rest None = false
goes_on rest (Some least) = rest least

-- the partners of the boxes of a level rise: those of depth d up to the first box that is less deep. The boxes of that
-- level are in the same order in both files
abbrev pub is_rising : ℕ → ℕ → List TreeBox → List (Option ℕ) → Bool
is_rising d least (x ∷ xs) (n ∷ ns) =
    if nat_lt x.depth d then true else goes_on (λ next. is_rising d next xs ns) (least_after d least x n)
is_rising d least _ _ = true

-- the key of a path: two numbers for each part
abbrev pub key_of : List Part → List ℕ
key_of path = flat_map (λ p. code_key p.code ∷ p.index ∷ []) path

-- the numbers of boxes are found by the keys of their paths
abbrev pub AreNumbers : List TreeBox → Numbers → Type 0
AreNumbers boxes numbers =
    (path : List Part)
    → get_by (λ key. slice_cmp nat_cmp (key_of path) key.items) numbers.by_path ≡ partner_in (paths boxes) path
