use Rattle.mp4_content.proofs.ObjectText.{puts_fields}
use Rattle.mp4_content.specs.Fields.{content_fields, json_view}
use Rattle.mp4_inspect.proofs.tree_json.put_object.Goals as goal
use Rattle.mp4_shown.specs.Event.{shown_of}

pub returns : goal.returns
returns g c =
    let (rate, handed) = c.in_ok-put_content.ensures.fields in
    record {
      fields = (
        rate,
        puts_fields
            (content_fields (g.B.BoxFields.shown json_view) c.args.is_quicktime c.args.content.now (shown_of rate))
            c.args.sink.now.out c.begin_object.new.self c.put_content.new.sink.out c.end_object.new.self
            (c.in_ok-begin_object.ensures.room.0, c.in_ok-begin_object.ensures.ok) handed
            (c.in_ok-end_object.ensures.room.0, c.in_ok-end_object.ensures.ok),
      );
    }
