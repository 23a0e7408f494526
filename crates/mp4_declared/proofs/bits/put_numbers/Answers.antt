use Rattle.std.proofs.Common.{arith}
use Rattle.mp4_declared.proofs.BitSteps.{word_at, none_put, number_put, all_put}
use Rattle.mp4_declared.proofs.bits.put_numbers.Goals as goal

pub loop-k-init : goal.loop-k-init
loop-k-init g c = none_put c.args.widths.now c.args.numbers.now c.args.at c.args.out.now c.requires.fields

pub shifted-requires : goal.shifted-requires
shifted-requires g c =
    let h = word_at c.args.widths.now c.args.numbers.now c.args.at c.args.out.now c.loop-k.k c.loop-k.next c.loop-k.word
    c.loop-k.count c.loop-k.out c.requires.fields c.requires.fit (omega arith) c.loop-k.invariant in
    rw c.from-width.ensures h.shifts

pub overflow_add-word : goal.overflow_add-word
overflow_add-word g c =
    let h = word_at c.args.widths.now c.args.numbers.now c.args.at c.args.out.now c.loop-k.k c.loop-k.next c.loop-k.word
    c.loop-k.count c.loop-k.out c.requires.fields c.requires.fit (omega arith) c.loop-k.invariant in
    rw (c.shifted.ensures, c.from-width.ensures) (omega (arith, h.fits))

pub overflow_add-count : goal.overflow_add-count
overflow_add-count g c =
    let h = word_at c.args.widths.now c.args.numbers.now c.args.at c.args.out.now c.loop-k.k c.loop-k.next c.loop-k.word
    c.loop-k.count c.loop-k.out c.requires.fields c.requires.fit (omega arith) c.loop-k.invariant in
    omega (arith, h.short, c.from-width.ensures)

pub put_number-next-requires-clause-short : goal.put_number-next-requires-clause-short
put_number-next-requires-clause-short g c =
    let h = word_at c.args.widths.now c.args.numbers.now c.args.at c.args.out.now c.loop-k.k c.loop-k.next c.loop-k.word
    c.loop-k.count c.loop-k.out c.requires.fields c.requires.fit (omega arith) c.loop-k.invariant in
    rw c.from-width.ensures h.few

pub put_number-next-requires-clause-fits : goal.put_number-next-requires-clause-fits
put_number-next-requires-clause-fits g c =
    let h = word_at c.args.widths.now c.args.numbers.now c.args.at c.args.out.now c.loop-k.k c.loop-k.next c.loop-k.word
    c.loop-k.count c.loop-k.out c.requires.fields c.requires.fit (omega arith) c.loop-k.invariant in
    rw (c.shifted.ensures, c.from-width.ensures) h.piece

pub put_number-next-requires-clause-room : goal.put_number-next-requires-clause-room
put_number-next-requires-clause-room g c =
    let h = word_at c.args.widths.now c.args.numbers.now c.args.at c.args.out.now c.loop-k.k c.loop-k.next c.loop-k.word
    c.loop-k.count c.loop-k.out c.requires.fields c.requires.fit (omega arith) c.loop-k.invariant in
    rw c.from-width.ensures (omega (arith, h.room, c.requires.room, c.loop-k.invariant.least, c.loop-k.auto.out))

pub loop-k-preserved : goal.loop-k-preserved
loop-k-preserved g c =
    let put = rw (c.put_number-next.ensures.next, c.shifted.ensures, c.from-width.ensures) at
    c.put_number-next.ensures.put in
    rw (c.put_number-next.ensures.next, c.low_bits-word.ensures, c.shifted.ensures, c.from-width.ensures)
    (number_put c.args.widths.now c.args.numbers.now c.args.at c.args.out.now c.loop-k.k c.loop-k.next c.loop-k.word
    c.loop-k.count c.loop-k.out c.put_number-next.new.out c.requires.fields c.requires.fit (omega arith)
    c.loop-k.invariant put)

pub returns : goal.returns
returns g c =
    let p = all_put c.args.widths.now c.args.numbers.now c.args.at c.args.out.now c.loop-k.k c.loop-k.next c.loop-k.word
    c.loop-k.count c.loop-k.out (omega arith) c.loop-k.invariant in
    record { next = p.0; put = p.1 }
