use Rattle.std.proofs.Common.{◌≡◌, ℕ, suc, ◌+◌, ◌<◌, false, List, length, refl, arith}
use Rattle.std.specs.Prelude.{◌==◌, get_or}
use Rattle.std.proofs.lemmas.Bool.{ne_eqb}
use Rattle.std.proofs.lemmas.List.{get_or_past}
use Rattle.mp4_frame.specs.Bytes.{number}
use Rattle.mp4_c.proofs.list.header_length.Goals as goal

-- a number whose last byte is missing is no 1
no_one : (B : List ℕ) (o : ℕ) → length B < o + 4 → (number B o 4 == 1) ≡ false
unfolding number
no_one B o short =
    let at = suc (suc (suc o)) in
    let last : get_or B at 0 ≡ 0 = get_or_past B at 0 (omega arith) in
    ne_eqb (number B o 4) 1 (λ is. omega (arith, is, last))

pub returns-then-saturating_sub-lt4 : goal.returns-then-saturating_sub-lt4
returns-then-saturating_sub-lt4 c =
    let short = no_one c.args.bytes.now c.args.at (omega arith) in rw short refl
