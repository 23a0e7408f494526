use Rattle.std.proofs.Common.{◌<◌, ◌^◌, length, rules}
use Rattle.mp4_walk.proofs.Tops.{tops}
use Rattle.mp4_walk.proofs.laws.tops_are_frames.Goals as goal

pub returns : goal.returns
returns c = let short : length c.args.bytes.now < 2 ^ 64 = search rules in tops c.args.bytes.now short
