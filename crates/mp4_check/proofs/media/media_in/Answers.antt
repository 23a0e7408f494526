use Rattle.std.proofs.Common.{◌∙◌, ap, ℕ}
use Rattle.mp4_check.specs.Media.{media_of}
use Rattle.mp4_check.proofs.Outcomes.{if_some}
use Rattle.mp4_check.proofs.media.media_in.Goals as goal

pub returns-clause-value : goal.returns-clause-value
returns-clause-value g c =
    let extents = rw c.in_ok-media.ensures.ok at c.media_of.ensures.extents in
    let length = rw c.in_ok-media.ensures.ok at c.media_of.ensures.length in
    if_some c.args.walk.now.bytes c.file_length-size.ensures
    (λ file size. (extents ∙ ap (λ (n : ℕ). media_of n c.args.boxes.now) size, length ∙ size))

pub returns-clause-order : goal.returns-clause-order
returns-clause-order g c = rw c.deref.ensures.value at (c.are_in_order.ensures c.if-not-are_in_order.false)
