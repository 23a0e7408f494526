-- No track before the index refers to the track.
use Rattle.std.proofs.Common.{◌≡◌, drop}
use Rattle.mp4_info.specs.TrackJson.{have_chapters}
use Rattle.mp4_info.proofs.words.have_chapters.Given as goal

abbrev pub invariant-loop-index : goal.invariant-loop-index
invariant-loop-index l = have_chapters l.id l.tracks ≡ have_chapters l.id (drop l.index l.tracks)
