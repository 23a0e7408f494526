use Rattle.std.proofs.Common.{◌-◌, List, ℕ, ◌∙◌, ap, arith}
use Rattle.mp4_check.proofs.BlockBytes.{number_of_block}
use Rattle.mp4_check.proofs.samples.block.number_in.Goals as goal
use Rattle.mp4_frame.specs.Bytes.{number}

pub returns : goal.returns
returns c = λ file is.
    let b = c.args.block.now in
    let k = c.args.at - b.start in
    c.number_of.ensures
    ∙ ap (λ (bytes : List ℕ). number bytes k c.args.width) c.deref.ensures.value
    ∙ number_of_block file b c.args.at k c.args.width is (omega (arith, c.if-at-block.false))
    (omega (arith, c.if-skip-length.false, c.if-length-skip.false, c.len-length.ensures))
