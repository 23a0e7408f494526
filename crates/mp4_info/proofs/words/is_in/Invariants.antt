-- No number before the index is the track_ID.
use Rattle.std.proofs.Common.{◌≡◌, drop}
use Rattle.mp4_info.specs.TrackJson.{is_in}
use Rattle.mp4_info.proofs.words.is_in.Given as goal

abbrev pub invariant-loop-index : goal.invariant-loop-index
invariant-loop-index l = is_in l.id l.ids ≡ is_in l.id (drop l.index l.ids)
