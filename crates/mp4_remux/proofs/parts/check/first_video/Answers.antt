use Rattle.std.proofs.Common.{arith, get_or}
use Rattle.std.proofs.lemmas.Bool.{iff_false}
use Rattle.std.proofs.lemmas.List.{get_or_default}
use Rattle.mp4_remux.proofs.CutTracks.{first_video_at, no_info, no_video_more}
use Rattle.mp4_remux.proofs.parts.check.first_video.Goals as goal

pub loop-number-preserved : goal.loop-number-preserved
loop-number-preserved c =
    let t = get_or c.args.infos.now c.loop-number.number no_info in
    no_video_more c.args.infos.now c.loop-number.number t c.loop-number-test.true
    (get_or_default c.args.infos.now c.loop-number.number no_info t c.loop-number-test.true)
    (iff_false c.is_video.ensures c.if-is_video.false) c.loop-number.invariant

pub returns-then-is_video : goal.returns-then-is_video
returns-then-is_video c =
    let t = get_or c.args.infos.now c.loop-number.number no_info in
    first_video_at c.args.infos.now c.loop-number.number t c.loop-number-test.true
    (get_or_default c.args.infos.now c.loop-number.number no_info t c.loop-number-test.true)
    (c.is_video.ensures.0 c.if-is_video.true) c.loop-number.invariant
