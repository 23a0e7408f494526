use Rattle.std.proofs.Common.{◌++◌, take, arith, rules, length-append}
use Rattle.std.proofs.lemmas.List.{length-take-le}
use Rattle.std.proofs.KnownBytes.{Consumes-trans}
use Rattle.mp4_io.proofs.whole.skip_all.Goals as goal

pub loop-n-preserved : goal.loop-n-preserved
loop-n-preserved g c =
    let pulled = c.in-Some.ensures in
    let before = c.loop-n.invariant.front in
    let piece = take c.in-Some.n c.pull.new.buf in
    record {
      least = search rules;
      front = (
        before.0 ++ piece,
        Consumes-trans _ _ _ _ _ before.1 pulled.bytes.0,
        omega (
          arith,
          length-append before.0 piece,
          length-take-le c.in-Some.n c.pull.new.buf pulled.bound,
          before.2,
          c.in-Some-checked_sub.ensures,
        ),
      );
      mark = search rules;
    }
