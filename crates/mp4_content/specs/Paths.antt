-- The path of a box: the boxes around it, outermost first, and the box itself. Each part is a code, and the number of
-- earlier boxes with this code in the box around it.
use Rattle.std.specs.Prelude.{◌≡◌, ℕ, ◌+◌, ◌^◌, ◌==◌, ⊤, List, [], ◌∷◌, ◌++◌, count_by, fold, map, take, slice_index_or}
use Rattle.std.specs.Prelude.{◌-◌, min, None, Some, unwrap_or}
use Rattle.std.specs.BTreeMap.{get}
use Rattle.std.specs.Ordering.{nat_cmp}
use Rattle.std.specs.declared.option.Option.{Option}
use Rattle.mp4_content.specs.declared.path.Part.{Part}
use Rattle.mp4_content.specs.declared.path.OpenLevel.{OpenLevel}
use Rattle.mp4_frame.specs.FourCC.{four_cc_of, number_of}
use Rattle.mp4_frame.specs.declared.codes.TheConstants as codes
use Rattle.mp4_frame.specs.declared.four_cc.FourCC.{FourCC}
use Rattle.mp4_walk.specs.declared.tree_box.TreeBox.{TreeBox}

abbrev pub Code : Type 0
Code = Option FourCC

-- the number of a code, or the number after all codes for bytes without one
abbrev pub code_key : Code → ℕ
code_key None = 2 ^ 32
code_key (Some code) = number_of code

-- the next number, in 64 bits
abbrev pub next : ℕ → ℕ
next n = min (n + 1) (2 ^ 64 - 1)

-- the number of these codes that are the same, in 64 bits
abbrev pub count_of : Code → List Code → ℕ
count_of code these = min (count_by (λ c. code_key c == code_key code) these) (2 ^ 64 - 1)

-- the open levels, outermost first: the codes of the boxes of each so far, the last one first. A box of depth d ends
-- all levels that are deeper
abbrev pub entered : List (List Code) → TreeBox → List (List Code)
entered opened x = take x.depth opened ++ ((x.code ∷ slice_index_or opened x.depth []) ∷ [])

-- the last box of a level as a part
abbrev pub part_of : List Code → Part
part_of [] = record { code = None; index = 0 }
part_of (code ∷ earlier) = record { code = code; index = count_of code earlier }

abbrev pub parts_of : List (List Code) → List Part
parts_of opened = map part_of opened

-- the path of the last of these boxes, which are the first boxes of a file
abbrev pub path_of : List TreeBox → List Part
path_of boxes = parts_of (fold entered [] boxes)

-- paths of which each part is known
abbrev pub single : ℕ → ℕ → Part
single code index = record { code = Some (four_cc_of code); index = index }

abbrev pub firsts : List ℕ → List Part
firsts these = map (λ code. single code 0) these

abbrev pub in_file : ℕ → ℕ → List Part
in_file code index = single code index ∷ []

abbrev pub in_track : ℕ → List ℕ → List Part
in_track number these = single codes.MOOV 0 ∷ single codes.TRAK number ∷ firsts these

abbrev pub in_fragment : ℕ → ℕ → List ℕ → List Part
in_fragment moof traf these = single codes.MOOF moof ∷ single codes.TRAF traf ∷ firsts these

-- a level as it is stored: its last part, and the count of each code
pub record IsOpen (these : List Code) (level : OpenLevel) : Type 0 where
  pub last_is : level.last ≡ part_of these
  pub counts_are : (code : Code) → unwrap_or (get nat_cmp level.counts (code_key code)) 0 ≡ count_of code these

abbrev pub AreOpen : List (List Code) → List OpenLevel → Type 0
AreOpen [] [] = ⊤
AreOpen (these ∷ opened) (level ∷ levels) = IsOpen these level × AreOpen opened levels
AreOpen _ _ = ⊥
