use Rattle.std.proofs.Common.{ℕ, ◌+◌, ◌-◌, ◌*◌, ◌/◌, ◌%◌, ◌^◌, sym, ap, ◌∙◌}
use Rattle.mp4_frame.proofs.Numbers.{number_at}
use Rattle.mp4_declared.proofs.bits.bits_at.Goals as goal

pub returns : goal.returns
returns c =
    c.low_bits.ensures
    ∙ ap (λ (x : ℕ). x / 2 ^ (8 * ((c.args.from % 8 + c.args.width + 7) / 8) - (c.args.from % 8 + c.args.width)) % 2 ^
    c.args.width)
    (c.read_uint-word.ensures
    ∙ sym (number_at c.args.bytes.now (c.args.at + c.args.from / 8) ((c.args.from % 8 + c.args.width + 7) / 8)))
