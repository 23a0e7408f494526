use Rattle.std.proofs.Common.{◌+◌, ◌-◌, length, arith}
use Rattle.std.proofs.lemmas.Slice.{drop-put_mid}
use Rattle.mp4_normal.proofs.make.put_at.Goals as goal

pub returns-clause-rest : goal.returns-clause-rest
returns-clause-rest c =
    let n = length c.args.fresh.now in
    drop-put_mid c.args.at (c.args.at + n - c.args.at) c.args.bytes.now c.copy_from_slice.new.self (c.args.at + n)
    (omega arith) (omega (arith, c.requires.room)) (omega (arith, c.copy_from_slice.auto.self))
