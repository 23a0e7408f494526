use Rattle.mp4_frame.specs.declared.codes.TheConstants as codes
use Rattle.mp4_movie.specs.CompactSizes.{listed}
use Rattle.mp4_movie.proofs.Chains.{fault_returned}
use Rattle.mp4_movie.proofs.compact_sizes.listed_at.Goals as goal

pub returns-in-Err : goal.returns-in-Err
returns-in-Err c =
    let h = rw c.in-Err.is at c.in_ok-stsz.ensures in
    fault_returned codes.STZ2 c.args.position c.from.result c.in-Err.error (listed c.args.stz2.now) c.from.ensures h
