use Rattle.std.proofs.Common.{List, ◌++◌, ◌∷◌, [], ◌∙◌, ap}
use Rattle.std.specs.declared.option.Option.{Option}
use Rattle.mp4_frame.specs.FourCC.{four_cc_of}
use Rattle.mp4_frame.specs.declared.codes.TheConstants as codes
use Rattle.mp4_movie.specs.Levels.{Found, all_in}
use Rattle.mp4_walk.specs.declared.tree_box.TreeBox.{TreeBox}
use Rattle.mp4_remux.proofs.Origins.{all_lists, one_more_list}
use Rattle.mp4_remux.specs.Origins.{list_boxes, list_boxes_in}
use Rattle.mp4_remux.proofs.parts.origin.list_boxes.Goals as goal

pub loop-place-preserved : goal.loop-place-preserved
loop-place-preserved c =
    let f : Found = record { box = c.in-Some.place.found; after = c.in-Some.place.after.now } in
    ap (λ (xs : List (Option TreeBox)). xs ++ list_boxes_in (all_in 1 (four_cc_of codes.TRAK) f.after))
    (c.in_ok-push.ensures.items ∙ ap (λ (o : Option TreeBox). c.loop-place.lists.items ++ o ∷ []) c.list_box.ensures)
    ∙ one_more_list c.loop-place.rest.now c.loop-place.lists.items f (list_boxes c.args.boxes.now)
    c.in-Some.ensures.first c.loop-place.invariant

pub returns : goal.returns
returns c =
    all_lists c.loop-place.rest.now c.loop-place.lists.items (list_boxes c.args.boxes.now) c.in_default.ensures.first
    c.loop-place.invariant
