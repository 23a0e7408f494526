use Rattle.std.proofs.Common.{◌≡◌, ◌*◌, refl, sym, arith}
use Rattle.mp4_samples.specs.Sizes.{bytes_of}
use Rattle.mp4_samples.proofs.Bytes.{bytes_zero}
use Rattle.mp4_samples.proofs.BlockSums.{more_blocks, block_fits}
use Rattle.mp4_samples.proofs.Pushed.{each_push, long_push}
use Rattle.mp4_samples.proofs.marks.blocks_of.Goals as goal

pub loop-block-init : goal.loop-block-init
loop-block-init c = record {
  long = omega (arith, c.in_ok-bytes.ensures.len);
  items = rw c.in_ok-bytes.ensures.items refl;
  room = omega (arith, c.in_ok-bytes.ensures.exact);
  total = sym (bytes_zero c.args.stsz.now 0);
  is = λ i lt. absurd (omega arith);
}

pub overflow_add-total : goal.overflow_add-total
overflow_add-total c =
    let fits = block_fits c.args.stsz.now c.loop-block.block (omega arith) c.requires.fits in
    omega (arith, fits, c.loop-block.invariant.total, c.bytes_between-total.ensures)

pub loop-block-preserved : goal.loop-block-preserved
loop-block-preserved c =
    let z = c.args.stsz.now in
    let l = c.loop-block in
    let inv = l.invariant in
    let items = c.push_reserved.ensures.items in
    let more = more_blocks z l.block in
    record {
      long = omega (arith, c.push_reserved.ensures.len, inv.long);
      items = long_push _ l.bytes.items l.total l.block items inv.items;
      room = omega (arith, c.push_reserved.ensures.capacity, inv.room);
      total = omega (arith, more, inv.total, c.bytes_between-total.ensures);
      is = each_push (λ i v. v ≡ bytes_of z 0 (i * 64)) _ l.bytes.items l.total l.block items inv.items inv.is
          inv.total;
    }

pub returns-clause-marks : goal.returns-clause-marks
returns-clause-marks c =
    let z = c.args.stsz.now in
    let l = c.loop-block in
    let inv = l.invariant in
    let items = c.push_reserved-2.ensures.items in
    let long = long_push _ l.bytes.items l.total l.block items inv.items in
    record {
      each = λ some. omega (arith, long);
      is = λ i lt. each_push (λ i v. v ≡ bytes_of z 0 (i * 64)) _ l.bytes.items l.total l.block items inv.items inv.is
          inv.total i (omega (arith, lt, long));
    }

pub returns-clause-all : goal.returns-clause-all
returns-clause-all c =
    let l = c.loop-block in
    λ none. omega (arith, long_push _ l.bytes.items l.total l.block c.push_reserved-2.ensures.items l.invariant.items)
