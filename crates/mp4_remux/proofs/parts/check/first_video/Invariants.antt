-- The tracks before this one are no videos.
use Rattle.std.proofs.Common.{ℕ, ◌<◌, get_or}
use Rattle.mp4_movie.specs.declared.info.TrackInfo.{TrackInfo}
use Rattle.mp4_remux.specs.CarriedParts.{IsVideoInfo}
use Rattle.mp4_remux.proofs.parts.check.first_video.Given as goal

abbrev pub invariant-loop-number : goal.invariant-loop-number
invariant-loop-number l = (k : ℕ) (t : TrackInfo) → k < l.number → ¬ IsVideoInfo (get_or l.infos k t)
