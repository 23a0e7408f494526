use Rattle.mp4_info.proofs.FileJson.{file_put}
use Rattle.mp4_info.proofs.file_json.put_file.Goals as goal

pub returns : goal.returns
returns c =
    file_put c.args.sink.now.out c.put_head.new.sink.out c.put_segments.new.sink.out c.put_tag_list.new.sink.out
    c.put_track_list.new.sink.out c.args.name.now c.args.facts.now c.in_ok-put_head.ensures c.in_ok-put_segments.ensures
    (rw c.deref.ensures.value at c.in_ok-put_tag_list.ensures)
    (rw c.deref-2.ensures.value at c.in_ok-put_track_list.ensures)
