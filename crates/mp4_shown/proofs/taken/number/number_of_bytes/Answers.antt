use Rattle.std.proofs.Common.{◌≡◌, ℕ, length, sym, ap, rules}
use Rattle.mp4_frame.specs.Bytes.{number}
use Rattle.mp4_shown.proofs.taken.number.number_of_bytes.Goals as goal

pub returns-then-is_empty : goal.returns-then-is_empty
unfolding number
returns-then-is_empty c =
    let none : length c.args.bytes.now ≡ 0 = search rules in
    sym (ap (λ (n : ℕ). number c.args.bytes.now 0 n) none)
