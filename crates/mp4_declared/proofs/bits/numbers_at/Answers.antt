use Rattle.std.proofs.Common.{arith}
use Rattle.mp4_declared.specs.BitsLaws.{fields_few}
use Rattle.mp4_declared.proofs.BitSteps.{field_at, number_read, all_read}
use Rattle.mp4_declared.proofs.bits.numbers_at.Goals as goal

pub bits_at-requires-clause-short : goal.bits_at-requires-clause-short
bits_at-requires-clause-short g c =
    let f = field_at c.args.widths.now c.loop-k.k c.loop-k.from c.requires.fields (omega arith) c.loop-k.invariant.sofar
    c.loop-k.invariant.whole in
    omega (arith, f.short, c.from-width.ensures)

pub bits_at-requires-clause-room : goal.bits_at-requires-clause-room
bits_at-requires-clause-room g c =
    let f = field_at c.args.widths.now c.loop-k.k c.loop-k.from c.requires.fields (omega arith) c.loop-k.invariant.sofar
    c.loop-k.invariant.whole in
    rw c.from-width.ensures (omega (arith, f.room, c.requires.room))

pub overflow_add-from : goal.overflow_add-from
overflow_add-from g c =
    let f = field_at c.args.widths.now c.loop-k.k c.loop-k.from c.requires.fields (omega arith) c.loop-k.invariant.sofar
    c.loop-k.invariant.whole in
    omega (arith, f.next, fields_few c.args.widths.now c.requires.fields, c.from-width.ensures)

pub loop-k-preserved : goal.loop-k-preserved
loop-k-preserved g c =
    rw c.from-width.ensures
    (number_read c.args.widths.now c.loop-k.numbers c.args.bytes.now c.args.at c.loop-k.k c.loop-k.from _
    (λ i. omega (arith, c.type_inv.bytes i)) c.requires.fields (omega arith) c.loop-k.invariant
    (rw c.from-width.ensures at c.bits_at.ensures))

pub returns : goal.returns
returns g c = all_read c.args.widths.now c.loop-k.numbers _ c.loop-k.k c.loop-k.from (omega arith) c.loop-k.invariant
