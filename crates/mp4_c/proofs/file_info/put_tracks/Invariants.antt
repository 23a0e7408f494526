-- The tracks before the index and their texts are written.
use Rattle.std.proofs.Common.{◌≡◌, take}
use Rattle.mp4_c.specs.FileInfos.{text_size, track_infos, track_texts}
use Rattle.mp4_c.proofs.file_info.put_tracks.Given as goal

abbrev pub invariant-loop-index : goal.invariant-loop-index
invariant-loop-index l = record {
  offset : l.at ≡ text_size (take l.index l.tracks);
  rows : take l.index l.rows ≡ track_infos 0 (take l.index l.tracks);
  text : take l.at l.text ≡ track_texts (take l.index l.tracks);
}
