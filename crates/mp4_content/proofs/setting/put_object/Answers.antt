use Rattle.mp4_content.proofs.ObjectText.{puts_fields}
use Rattle.mp4_content.specs.Fields.{json_view}
use Rattle.mp4_content.proofs.setting.put_object.Goals as goal

pub returns : goal.returns
returns g c =
    puts_fields (g.B.BoxFields.shown json_view c.args.value.now) c.args.sink.now.out c.begin_object.new.self
    c.put_fields.new.sink.out c.end_object.new.self
    (c.in_ok-begin_object.ensures.room.0, c.in_ok-begin_object.ensures.ok) c.in_ok-put_fields.ensures.fields
    (c.in_ok-end_object.ensures.room.0, c.in_ok-end_object.ensures.ok)
