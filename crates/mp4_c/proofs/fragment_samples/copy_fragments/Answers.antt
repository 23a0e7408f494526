use Rattle.std.proofs.Common.{inl, inr, refl, arith}
use Rattle.mp4_c.proofs.fragment_samples.copy_fragments.Goals as goal

pub returns-then-rows-total : goal.returns-then-rows-total
returns-then-rows-total c =
    inl (omega (arith, c.count_of-total.ensures, c.if-rows-total.true), (refl, (refl, c.count_of-total.ensures)))

pub returns-in-Ok : goal.returns-in-Ok
returns-in-Ok c = inr (inl (c.in-Ok.found.items, (c.in-Ok.ensures.rows, c.copy_rows.ensures)))
