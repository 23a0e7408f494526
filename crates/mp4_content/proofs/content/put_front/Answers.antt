use Rattle.std.proofs.Common.{◌<◌, length, rules}
use Rattle.mp4_content.proofs.Fields.{with_few, with_plain}
use Rattle.mp4_content.proofs.content.put_front.Goals as goal

pub returns-in-Sound-2 : goal.returns-in-Sound-2
returns-in-Sound-2 g c =
    let few : length c.args.bytes.now < 28 = search rules in
    record {
      fields = with_few g.K.FieldSink.trace g.K.FieldSink.after c.args.sink.now c.args.kind c.args.is_quicktime
          c.args.bytes.now c.in-Sound-2.is few;
    }

pub returns-in_default : goal.returns-in_default
returns-in_default g c = record {
  fields = with_plain g.K.FieldSink.trace g.K.FieldSink.after c.put_plain.result c.args.sink.now
      c.put_plain.new.sink c.args.kind c.args.is_quicktime c.args.bytes.now c.in_default.not-Sound
      c.put_plain.ensures.fields;
}
