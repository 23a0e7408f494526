-- No reference before the index is one to the track.
use Rattle.std.proofs.Common.{◌≡◌, drop}
use Rattle.std.specs.List.{list_any}
use Rattle.mp4_info.specs.TrackJson.{refers_to}
use Rattle.mp4_info.proofs.words.refer_to.Given as goal

abbrev pub invariant-loop-index : goal.invariant-loop-index
invariant-loop-index l = list_any (refers_to l.id) l.references ≡ list_any (refers_to l.id) (drop l.index l.references)
