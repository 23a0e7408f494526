use Rattle.std.proofs.Common.{arith, take}
use Rattle.mp4_c.proofs.TrackRows.{rows_more, size_more, texts_more}
use Rattle.mp4_c.proofs.file_info.put_tracks.Goals as goal

pub loop-index-preserved : goal.loop-index-preserved
loop-index-preserved c =
    let l = c.loop-index in
    let tracks = c.args.tracks.now in
    let row = c.index-tracks-index in
    let text = c.index-tracks-index-in-loop-index in
    let next = c.put_text-at.result in
    record {
      offset = size_more tracks l.index l.at next text.result (omega arith) text.is l.invariant.offset
          c.put_text-at.ensures.next;
      rows = rows_more tracks l.index l.at row.result c.track_info.result l.rows (omega arith) (omega arith) row.is
          l.invariant.offset l.invariant.rows c.track_info.ensures;
      text = texts_more tracks l.index text.result (take l.at l.text) (take next c.put_text-at.new.text) (omega arith)
          text.is l.invariant.text c.put_text-at.ensures.put;
    }
