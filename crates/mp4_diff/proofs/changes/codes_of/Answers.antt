use Rattle.std.proofs.Common.{◌≡◌, ◌<◌, ◌≤◌, get_or, length, rules, true}
use Rattle.std.specs.Prelude.{◌==◌, ◌||◌, nat_lt}
use Rattle.mp4_diff.proofs.DiffSteps.{codes_end, codes_few, codes_more, codes_over, no_box}
use Rattle.mp4_diff.proofs.changes.codes_of.Goals as goal

pub returns-then-ends : goal.returns-then-ends
returns-then-ends c =
    let l = c.boxes in
    let inside : l.found-index < length c.args.boxes.now = search rules in
    let over : (nat_lt (get_or c.args.boxes.now l.found-index no_box).depth c.args.depth
    || (length l.codes.items == 64)) ≡ true = search rules in
    codes_over c.args.boxes.now l.found-index no_box c.args.depth l.codes.items _ inside over l.invariant.so_far

pub boxes-preserved : goal.boxes-preserved
boxes-preserved c =
    let l = c.boxes in
    let inside : l.found-index < length c.args.boxes.now = search rules in
    let few : length l.codes.items < 64 = search rules in
    record {
      few = codes_few _ _ l.codes.items c.push_code.new.codes.items few c.in_ok-push_code.ensures;
      so_far = codes_more c.args.boxes.now l.found-index _ c.args.depth l.codes.items c.push_code.new.codes.items _
          inside few c.in_ok-push_code.ensures (search rules) l.invariant.so_far;
    }

pub returns : goal.returns
returns c =
    let l = c.boxes in
    let ends : length c.args.boxes.now ≤ l.found-index = search rules in
    codes_end c.args.boxes.now l.found-index c.args.depth l.codes.items _ ends l.invariant.so_far
