-- The lists that are made, and those of the tracks that follow, are those of all tracks.
use Rattle.std.proofs.Common.{◌≡◌, ◌++◌, length}
use Rattle.mp4_frame.specs.FourCC.{four_cc_of}
use Rattle.mp4_frame.specs.declared.codes.TheConstants as codes
use Rattle.mp4_movie.specs.Levels.{all_in}
use Rattle.mp4_remux.specs.Origins.{list_boxes, list_boxes_in}
use Rattle.mp4_remux.proofs.parts.origin.list_boxes.Given as goal

abbrev pub invariant-loop-place : goal.invariant-loop-place
invariant-loop-place l =
    l.lists.items ++ list_boxes_in (all_in 1 (four_cc_of codes.TRAK) l.rest) ≡ list_boxes l.boxes

abbrev pub decreases-loop-place : goal.decreases-loop-place
decreases-loop-place l = length l.rest
