use Rattle.std.specs.Option.{option_copied}
use Rattle.mp4_c.proofs.Objects.{puts_object}
use Rattle.mp4_c.specs.Fields.{fields_or}
use Rattle.mp4_content.proofs.ObjectText.{puts_fields}
use Rattle.mp4_content.specs.Fields.{json_view}
use Rattle.mp4_shown_json.proofs.Puts.{puts_members}
use Rattle.mp4_c.proofs.fields.put_object.Goals as goal

pub returns : goal.returns
returns g c =
    let (es, whole, handed) = c.in_ok-put_shown.ensures.whole in
    record {
      fields =
          puts_fields
          (fields_or (option_copied c.args.url) (g.B.BoxFields.shown json_view c.args.value.now))
          c.args.sink.now.out c.begin_object.new.self c.put_shown.new.sink.out c.end_object.new.self
          (c.in_ok-begin_object.ensures.room.0, c.in_ok-begin_object.ensures.ok) c.in_ok-put_shown.ensures.fields
          (c.in_ok-end_object.ensures.room.0, c.in_ok-end_object.ensures.ok);
      whole =
          puts_object c.args.sink.now.out c.begin_object.new.self c.put_shown.new.sink.out c.end_object.new.self
          (c.in_ok-begin_object.ensures.room.0, c.in_ok-begin_object.ensures.ok)
          (puts_members c.begin_object.new.self c.put_shown.new.sink.out es whole handed)
          (c.in_ok-end_object.ensures.room.0, c.in_ok-end_object.ensures.ok);
    }
