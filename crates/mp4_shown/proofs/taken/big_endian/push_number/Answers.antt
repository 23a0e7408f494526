use Rattle.std.proofs.Common.{◌++◌, List, ℕ, ap, ◌∙◌}
use Rattle.mp4_shown.proofs.LastBytes.{last_bytes}
use Rattle.mp4_shown.proofs.taken.big_endian.push_number.Goals as goal

pub returns : goal.returns
returns c =
    let bytes = rw c.to_be_bytes-bytes.ensures at c.in_ok-extend_from_slice.ensures.items in
    bytes ∙ ap (λ (l : List ℕ). c.args.out.now.items ++ l) (last_bytes c.args.width c.args.number c.requires)
