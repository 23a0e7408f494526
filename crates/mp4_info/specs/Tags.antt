-- The tags of a movie (QuickTime File Format, "Metadata"): the items of the `ilst` in its `udta`, as far as they can be
-- read.
use Rattle.std.specs.Prelude.{ℕ, ◌==◌, nat_lt, List, [], ◌∷◌, ◌++◌, map, None, Some, if◌then◌else◌}
use Rattle.std.specs.declared.option.Option.{Option}
use Rattle.mp4_extra_tracks.specs.declared.data.Data.{Data}
use Rattle.mp4_frame.specs.FourCC.{four_cc_of}
use Rattle.mp4_frame.specs.Reading.{Reading}
use Rattle.mp4_frame.specs.declared.codes.TheConstants as codes
use Rattle.mp4_info.specs.Found.{found}
use Rattle.mp4_info.specs.declared.tags.Tag.{Tag}
use Rattle.mp4_movie.specs.Levels.{Found, after_of, first_in}
use Rattle.mp4_walk.specs.declared.tree_box.TreeBox.{TreeBox}

-- the boxes inside the `ilst` of a movie, which begins with the boxes inside its `moov`
abbrev pub items_in : List TreeBox → List TreeBox
items_in movie =
    after_of (first_in 3 (four_cc_of codes.ILST)
    (after_of (first_in 2 (four_cc_of codes.META) (after_of (first_in 1 (four_cc_of codes.UDTA) movie)))))

-- an item by its box, and the boxes after the header of that: its code, and its first value
abbrev pub tag_of : (List ℕ → ℕ → ℕ → Reading Data) → List ℕ → TreeBox → List TreeBox → Tag
tag_of reads file x after =
    record { code = x.code; value = found reads file (first_in 5 (four_cc_of codes.DATA) after) }

-- a box of depth 4 is an item; deeper boxes are inside one
abbrev pub tags_at : (List ℕ → ℕ → ℕ → Reading Data) → List ℕ → TreeBox → List TreeBox → List Tag
tags_at reads file x after = if x.depth == 4 then tag_of reads file x after ∷ [] else []

-- all items of a level of depth 4
abbrev pub tags_of : (List ℕ → ℕ → ℕ → Reading Data) → List ℕ → List TreeBox → List Tag
tags_of reads file [] = []
tags_of reads file (x ∷ xs) =
    if nat_lt x.depth 4 then [] else tags_at reads file x xs ++ tags_of reads file xs

abbrev pub tags_in : (List ℕ → ℕ → ℕ → Reading Data) → List ℕ → List TreeBox → List Tag
tags_in reads file movie = tags_of reads file (items_in movie)
