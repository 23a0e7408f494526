use Rattle.std.proofs.Common.{ap, take, arith}
use Rattle.std.proofs.Math.Nat.{mul-add}
use Rattle.mp4_tables.specs.TrunRows.{row_flags, row_length}
use Rattle.mp4_tables.proofs.TrunRows.{row_put}
use Rattle.mp4_tables.proofs.trun.rows.put_rows_of.Goals as goal

pub loop-i-preserved : goal.loop-i-preserved
loop-i-preserved g c =
    let v = c.args.trun.now in
    let i = c.loop-i.i in
    let length = ap row_length c.requires.has in
    record {
      next = omega (
        arith,
        c.put_number-size_at.ensures.next,
        c.put_number-flags_at.ensures.next,
        c.put_number-cts_at.ensures.next,
        c.put_number-next.ensures.next,
        c.loop-i.invariant.next,
        length,
        mul-add (row_length (row_flags v.flags)) i 1,
      );
      written = rw (
        c.put_number-next.ensures.put,
        c.put_number-cts_at.ensures.put,
        c.put_number-flags_at.ensures.put,
        c.put_number-size_at.ensures.put,
        c.loop-i.invariant.written,
        c.as_slice-durations.ensures,
        c.as_slice-sizes.ensures,
        c.as_slice-flags.ensures,
        c.as_slice-cts.ensures,
      ) (row_put v i (take c.args.at c.args.out.now));
    }
