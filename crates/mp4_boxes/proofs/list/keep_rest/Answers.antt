use Rattle.std.proofs.Common.{◌-◌, ◌≤◌, length, take, ap, ◌∙◌, arith}
use Rattle.mp4_lemmas.proofs.Lists.{moved_front}
use Rattle.mp4_boxes.proofs.Taken.{done_with}
use Rattle.mp4_boxes.proofs.list.keep_rest.Goals as goal

pub returns-clause-bytes : goal.returns-clause-bytes
returns-clause-bytes c read has =
    let P = c.args.part.now.items in
    let f = c.args.filled in
    let k = c.min-end.result - c.args.from in
    let le : k ≤ f = omega (arith, c.min-end.ensures, c.requires.order) in
    let within : f ≤ length P = omega (arith, c.requires.within, c.args.part.now.ok.0) in
    done_with read P c.copy_within.new.self.items c.args.from f k within le
    (ap (take (f - k)) c.copy_within.ensures.items ∙ moved_front P k f le within) has
