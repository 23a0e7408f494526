use Rattle.std.proofs.Common.{◌<◌, ◌^◌, length, rules}
use Rattle.mp4_walk.proofs.Places.{placed}
use Rattle.mp4_walk.proofs.laws.boxes_are_placed.Goals as goal

pub returns : goal.returns
returns c = let short : length c.args.bytes.now < 2 ^ 64 = search rules in placed c.args.bytes.now short
