use Rattle.std.proofs.Common.{rules}
use Rattle.mp4_declared.specs.BitsLaws.{all_fit}
use Rattle.mp4_extra_sound.specs.declared.dec3.TheConstants as dec3
use Rattle.mp4_extra_sound.proofs.dec3.taken.take_single.Goals as goal

pub joined-word-requires-clause-fit : goal.joined-word-requires-clause-fit
joined-word-requires-clause-fit c =
    all_fit dec3.STREAM_WIDTHS c.in_ok-numbers.numbers (search rules) (λ k inside. c.in_ok-numbers.ensures.fit k)
