-- No track before the index has the track_ID.
use Rattle.std.proofs.Common.{◌≡◌, drop}
use Rattle.mp4_info.specs.FileJson.{timescale_by}
use Rattle.mp4_info.proofs.file_json.timescale_by.Given as goal

abbrev pub invariant-loop-index : goal.invariant-loop-index
invariant-loop-index l = timescale_by l.id l.tracks ≡ timescale_by l.id (drop l.index l.tracks)
