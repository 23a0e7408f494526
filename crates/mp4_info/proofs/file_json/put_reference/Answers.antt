use Rattle.std.specs.Prelude.{◌++◌, codes, flat_map}
use Rattle.mp4_info.specs.Members.{array, code_value, member, number_value}
use Rattle.mp4_info.proofs.Sequences.{object_put}
use Rattle.mp4_shown_json.proofs.Puts.{puts_more}
use Rattle.mp4_info.proofs.file_json.put_reference.Goals as goal

pub returns : goal.returns
returns c =
    let r = c.args.reference.now in
    let role = member (codes "type") (code_value r.reference_type) in
    let ids = member (codes "track_ids") (array (flat_map number_value r.track_ids)) in
    object_put c.args.sink.now.out c.begin_object.new.self c.put_track_ids.new.sink.out c.end_object.new.self
    (role ++ ids) (c.in_ok-begin_object.ensures.room.0, c.in_ok-begin_object.ensures.ok)
    (puts_more c.begin_object.new.self c.put_code.new.sink.out c.put_track_ids.new.sink.out role ids
    c.in_ok-put_code.ensures c.in_ok-put_track_ids.ensures)
    (c.in_ok-end_object.ensures.room.0, c.in_ok-end_object.ensures.ok)
