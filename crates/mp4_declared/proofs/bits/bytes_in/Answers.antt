use Rattle.std.proofs.Common.{ap, arith}
use Rattle.std.proofs.lemmas.List.{drop_all}
use Rattle.mp4_declared.specs.Bits.{bits}
use Rattle.mp4_declared.specs.BitsLaws.{fields_few}
use Rattle.mp4_declared.proofs.BitSteps.{bits-drop}
use Rattle.mp4_declared.proofs.bits.bytes_in.Goals as goal

pub overflow_add-total : goal.overflow_add-total
overflow_add-total g c =
    omega (
      arith,
      bits-drop c.args.widths.now c.loop-k.k (omega arith),
      fields_few c.args.widths.now c.requires,
      c.loop-k.invariant.total,
    )

pub loop-k-preserved : goal.loop-k-preserved
loop-k-preserved g c =
    record {
      total = omega (arith, bits-drop c.args.widths.now c.loop-k.k (omega arith), c.loop-k.invariant.total);
      most = omega arith;
    }

pub returns : goal.returns
returns g c = omega (arith, ap bits (drop_all c.loop-k.k c.args.widths.now (omega arith)), c.loop-k.invariant.total)
