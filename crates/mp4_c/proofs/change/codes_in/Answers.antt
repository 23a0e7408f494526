use Rattle.std.proofs.Common.{◌≡◌, ◌∙◌, length, sym, arith}
use Rattle.std.proofs.lemmas.Bool.Decides.{nat_tests}
use Rattle.mp4_c.proofs.ChangeRows.{chunks_of_four}
use Rattle.mp4_c.proofs.change.codes_in.Goals as goal

pub returns : goal.returns
returns c =
    let bytes = c.in_ok-part_in.field-0.now in
    let gone : length c.as_chunks.result.1.now ≡ 0 = grind (arith, nat_tests) in
    let whole = chunks_of_four bytes c.as_chunks.result.0.now c.as_chunks.ensures.front
    (sym c.as_chunks.ensures.back_len ∙ gone) in
    (c.in_ok-part_in.ensures.0, c.in_ok-codes_of.ensures ∙ (whole ∙ c.in_ok-part_in.ensures.1))
