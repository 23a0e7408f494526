-- The boxes of a level. A list of boxes in the order of the file begins somewhere in a level of depth d, which ends at
-- the first box of a smaller depth.
use Rattle.std.specs.Prelude.{ℕ, nat_lt, List, [], ◌∷◌, None, Some, if◌then◌else◌}
use Rattle.std.specs.declared.option.Option.{Option}
use Rattle.mp4_frame.specs.FourCC.{four_cc_of}
use Rattle.mp4_frame.specs.declared.codes.TheConstants as codes
use Rattle.mp4_frame.specs.declared.four_cc.FourCC.{FourCC}
use Rattle.mp4_walk.specs.Paths.{is_meant}
use Rattle.mp4_walk.specs.declared.tree_box.TreeBox.{TreeBox}
use Rattle.mp4_movie.specs.declared.level.BoxLocation.{BoxLocation}

-- a box, and the boxes after it, which begin with those inside it
pub record Found : Type 0 where
  pub box : TreeBox
  pub after : List TreeBox

-- the first box of this code in the level
abbrev pub first_in : ℕ → FourCC → List TreeBox → Option Found
first_in d code [] = None
first_in d code (x ∷ xs) =
    if nat_lt x.depth d then None else if is_meant d code x then Some (record { box = x; after = xs }) else
    first_in d code xs

abbrev pub found_of : Option BoxLocation → Option Found
found_of None = None
found_of (Some p) = Some (record { box = p.found; after = p.after.now })

-- all boxes of this code in the level
abbrev pub all_in : ℕ → FourCC → List TreeBox → List Found
all_in d code [] = []
all_in d code (x ∷ xs) =
    if nat_lt x.depth d then [] else if is_meant d code x then record { box = x; after = xs } ∷ all_in d code xs else
    all_in d code xs

-- the boxes after the header of a box, if one was found
abbrev pub after_of : Option Found → List TreeBox
after_of None = []
after_of (Some f) = f.after

-- the boxes of the movie of a file, and those after it
abbrev pub movie_in : List TreeBox → List TreeBox
movie_in boxes = after_of (first_in 0 (four_cc_of codes.MOOV) boxes)
