use Rattle.std.proofs.Common.{◌≡◌, List, OnOk, Result, ap, subst, sym}
use Rattle.mp4_shown.specs.Event.{Event}
use Rattle.mp4_shown.specs.Hands.{Hands}
use Rattle.mp4_shown.specs.declared.view.View.{View}
use Rattle.mp4_show.specs.contracts.fields.AnyBoxBoxFields.TheImpl.{ghosts}
use Rattle.mp4_stream.specs.declared.any_box.AnyBox.{AnyBox}
use Rattle.mp4_show.proofs.fields.AnyBoxBoxFields.show.Goals as goal

-- equal boxes have the same events
same_shown : {S T E : Type 0} (trace : S → T) (after : T → Event → T) (r : Result (Unit {0}) E) (old new : S)
    (view : View) (v w : AnyBox) → v ≡ w → OnOk r (Hands trace after old (ghosts.shown view w) new)
    → OnOk r (Hands trace after old (ghosts.shown view v) new)
same_shown trace after r old new view v w is handed =
    subst (λ (es : List Event). OnOk r (Hands trace after old es new))
    (ap (λ (u : AnyBox). ghosts.shown view u) (sym is)) handed

pub returns-in-MvhdBox : goal.returns-in-MvhdBox
returns-in-MvhdBox g c =
    same_shown g.K.FieldSink.trace g.K.FieldSink.after c.show-in-MvhdBox.result c.args.sink.now
    c.show-in-MvhdBox.new.sink c.args.view c.args.self.now _ c.in-MvhdBox.is c.show-in-MvhdBox.ensures

pub returns-in-TkhdBox : goal.returns-in-TkhdBox
returns-in-TkhdBox g c =
    same_shown g.K.FieldSink.trace g.K.FieldSink.after c.show-in-TkhdBox.result c.args.sink.now
    c.show-in-TkhdBox.new.sink c.args.view c.args.self.now _ c.in-TkhdBox.is c.show-in-TkhdBox.ensures

pub returns-in-Avc1Box : goal.returns-in-Avc1Box
returns-in-Avc1Box g c =
    same_shown g.K.FieldSink.trace g.K.FieldSink.after c.show-in-Avc1Box.result c.args.sink.now
    c.show-in-Avc1Box.new.sink c.args.view c.args.self.now _ c.in-Avc1Box.is c.show-in-Avc1Box.ensures

pub returns-in-VpccBox : goal.returns-in-VpccBox
returns-in-VpccBox g c =
    same_shown g.K.FieldSink.trace g.K.FieldSink.after c.show-in-VpccBox.result c.args.sink.now
    c.show-in-VpccBox.new.sink c.args.view c.args.self.now _ c.in-VpccBox.is c.show-in-VpccBox.ensures

pub returns-in-Vp09Box : goal.returns-in-Vp09Box
returns-in-Vp09Box g c =
    same_shown g.K.FieldSink.trace g.K.FieldSink.after c.show-in-Vp09Box.result c.args.sink.now
    c.show-in-Vp09Box.new.sink c.args.view c.args.self.now _ c.in-Vp09Box.is c.show-in-Vp09Box.ensures

pub returns-in-Tx3gBox : goal.returns-in-Tx3gBox
returns-in-Tx3gBox g c =
    same_shown g.K.FieldSink.trace g.K.FieldSink.after c.show-in-Tx3gBox.result c.args.sink.now
    c.show-in-Tx3gBox.new.sink c.args.view c.args.self.now _ c.in-Tx3gBox.is c.show-in-Tx3gBox.ensures

pub returns-in-EsdsBox : goal.returns-in-EsdsBox
returns-in-EsdsBox g c =
    same_shown g.K.FieldSink.trace g.K.FieldSink.after c.show-in-EsdsBox.result c.args.sink.now
    c.show-in-EsdsBox.new.sink c.args.view c.args.self.now _ c.in-EsdsBox.is c.show-in-EsdsBox.ensures
