use Rattle.mp4_movie.proofs.Packed.{unlisted}
use Rattle.mp4_movie.proofs.compact_sizes.listed.Goals as goal

pub returns-in-Some : goal.returns-in-Some
returns-in-Some c = unlisted c.args.stz2.now c.in-Some.error c.in-Some.ensures.invalid c.in-Some.ensures.none
