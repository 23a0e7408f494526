use Rattle.mp4_inspect.proofs.Json.{puts_fields}
use Rattle.mp4_content.specs.Fields.{content_fields, json_view}
use Rattle.mp4_inspect.proofs.tree_json.put_all_fields.Goals as goal
use Rattle.mp4_shown.specs.Event.{shown_of}

pub returns : goal.returns
returns g c =
    let (rate, put) = c.in_ok-put_object.ensures.fields in
    record {
      fields = (
        rate,
        puts_fields
            (content_fields (g.B.BoxFields.shown json_view) c.args.is_quicktime c.args.content.now (shown_of rate))
            c.args.sink.now.out c.key.new.self c.put_object.new.sink.out
            (c.in_ok-key.ensures.room.0, c.in_ok-key.ensures.ok) put,
      );
    }
