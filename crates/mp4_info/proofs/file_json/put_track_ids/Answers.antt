use Rattle.std.proofs.Common.{ℕ, List, subst}
use Rattle.std.specs.Prelude.{codes, flat_map}
use Rattle.mp4_info.specs.Members.{number_value}
use Rattle.mp4_info.proofs.Sequences.{array_put}
use Rattle.mp4_shown_json.specs.Tokens.{Puts}
use Rattle.mp4_info.proofs.file_json.put_track_ids.Goals as goal

pub returns : goal.returns
returns c =
    let start = c.begin_array.new.self in
    let end = c.put_ids.new.sink.out in
    array_put c.args.sink.now.out c.key.new.self start end c.end_array.new.self (codes "track_ids")
    (flat_map number_value c.args.reference.now.track_ids) (c.in_ok-key.ensures.room.0, c.in_ok-key.ensures.ok)
    (c.in_ok-begin_array.ensures.room.0, c.in_ok-begin_array.ensures.ok)
    (subst (λ (ns : List ℕ). Puts start end (flat_map number_value ns)) c.as_slice.ensures c.in_ok-put_ids.ensures)
    (c.in_ok-end_array.ensures.room.0, c.in_ok-end_array.ensures.ok)
