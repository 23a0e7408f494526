use Rattle.std.proofs.Common.{ℕ, ◌∙◌, ap, length}
use Rattle.std.specs.Prelude.{nat_le}
use Rattle.mp4_movie.proofs.Packed.{has_all}
use Rattle.mp4_movie.proofs.compact_sizes.has_all.Goals as goal

pub returns : goal.returns
returns c =
    ap (λ (n : ℕ). nat_le n (length c.args.bytes.now)) c.width_of.ensures
    ∙ has_all c.args.bits c.args.count c.args.bytes.now c.requires
