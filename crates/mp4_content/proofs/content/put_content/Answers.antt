use Rattle.std.proofs.Common.{refl}
use Rattle.mp4_content.proofs.Fields.{with_none, with_rate}
use Rattle.mp4_content.proofs.content.put_content.Goals as goal

pub returns-in-Known : goal.returns-in-Known
returns-in-Known g c =
    let shown = g.B.BoxFields.shown (g.K.FieldSink.wanted c.args.sink.now) c.in-Known.value in
    record {
      fields =
          rw c.in-Known.is (with_rate g.K.FieldSink.trace g.K.FieldSink.after c.put_fields.result c.args.sink.now
          c.put_fields.new.sink shown (λ rate. shown) (λ rate. refl) c.put_fields.ensures.fields);
    }

pub returns-in_default : goal.returns-in_default
returns-in_default g c = record {
  fields = with_none g.K.FieldSink.trace g.K.FieldSink.after c.args.sink.now c.args.content.now
      (g.B.BoxFields.shown (g.K.FieldSink.wanted c.args.sink.now)) c.args.is_quicktime c.in_default.not-Known
      c.in_default.not-Front;
}
