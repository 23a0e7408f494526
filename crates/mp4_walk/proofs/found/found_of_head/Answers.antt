use Rattle.std.proofs.Common.{◌≡◌, ◌+◌, ◌-◌, sym, ap, ◌∙◌, arith}
use Rattle.mp4_walk.proofs.Frames.{found_by, too_small, large_enough, small_found, found_is_by, by_fault}
use Rattle.mp4_walk.proofs.found.found_of_head.Goals as goal

pub returns-then-is_too_small : goal.returns-then-is_too_small
returns-then-is_too_small c =
    let l = c.args.level in
    let h = c.args.head in
    let small = too_small l c.args.at h (sym c.is_too_small.ensures ∙ c.if-is_too_small.true) in
    c.unread.ensures ∙ rw c.from.ensures (sym (small_found l c.args.at h small.0 small.1))

pub returns-in-Ok : goal.returns-in-Ok
returns-in-Ok c =
    let l = c.args.level in
    let o = c.args.at in
    let h = c.args.head in
    let large = large_enough l o h (sym c.is_too_small.ensures ∙ c.if-is_too_small.false) in
    let by = found_is_by l o h (omega arith) (omega (arith, c.requires.content)) large in
    c.found_as.ensures ∙ rw (c.from.ensures, c.content.ensures, c.end.ensures)
    (sym (by ∙ ap (found_by l o h) c.in-Ok.ensures.answer))

pub returns-in-Err : goal.returns-in-Err
returns-in-Err c =
    let l = c.args.level in
    let o = c.args.at in
    let h = c.args.head in
    let large = large_enough l o h (sym c.is_too_small.ensures ∙ c.if-is_too_small.false) in
    let by = found_is_by l o h (omega arith) (omega (arith, c.requires.content)) large in
    let long : h.start - o + h.size ≡ h.start + h.size - o = omega arith in
    c.found_as-in-Err.ensures ∙ rw (c.from.ensures, c.content.ensures, c.saturating_add.ensures, long)
    (sym (by ∙ by_fault l o h c.in-Err.field-0 _ c.in-Err.ensures.answer))
