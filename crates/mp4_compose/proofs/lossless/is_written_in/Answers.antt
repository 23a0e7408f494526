use Rattle.std.proofs.Common.{◌^◌, refl}
use Rattle.std.proofs.lemmas.Bool.{lt-ltb}
use lib.Pointwise.{bytes_decides}
use Rattle.mp4_compose.proofs.lossless.is_written_in.Goals as goal

pub returns-then-is_kept_in-clause-exact : goal.returns-then-is_kept_in-clause-exact
returns-then-is_kept_in-clause-exact g c =
    let f = g.B.Mp4Box.format in
    let v = c.args.value.now in
    let k = c.is_kept_in.ensures c.if-is_kept_in.true in
    rw (lt-ltb (f.size v) (2 ^ 32) k.0, (bytes_decides (f.bytes v) c.args.bytes.now).1 k.1) refl
