use Rattle.std.proofs.Common.{◌≡◌, true, ℕ, ◌+◌, ◌≤◌, ◌<◌, ◌^◌, length, slice_index, rules, arith}
use Rattle.mp4_declared.specs.Bits.{are_fields, bytes_in}
use Rattle.mp4_declared.specs.BitsLaws.{split-below}
use Rattle.mp4_declared.specs.Layout.{widths_of}
use Rattle.mp4_declared.specs.LayoutLaws.{laws_in}
use Rattle.mp4_declared.proofs.bit_fields.bits_from.Goals as goal

pub numbers_at-numbers-requires : goal.numbers_at-numbers-requires
numbers_at-numbers-requires g c =
    let l = laws_in g.X.EntryLayout.layout in
    let fields : are_fields c.widths.result ≡ true = rw c.widths.ensures l.fields in
    let room : c.args.at + bytes_in c.widths.result ≤ length c.args.bytes.now =
    rw (c.widths.ensures, l.long) (omega arith) in
    search rules

pub from_numbers-requires : goal.from_numbers-requires
from_numbers-requires g c =
    let ws = widths_of g.X.EntryLayout.layout.fields in
    let below : (k : ℕ) → slice_index c.numbers_at-numbers.result k < 2 ^ slice_index ws k =
    λ k. rw (c.numbers_at-numbers.ensures, c.widths.ensures) (split-below ws _ k) in
    search rules
