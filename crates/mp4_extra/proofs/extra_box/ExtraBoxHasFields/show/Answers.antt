use Rattle.mp4_shown.proofs.EqualTypes.{same_events}
use Rattle.mp4_extra.specs.ExtraBox.{extra_types}
use Rattle.mp4_extra.specs.contracts.extra_box.ExtraBoxExtraDeclarations.TheImpl.{ghosts}
use Rattle.mp4_extra.proofs.extra_box.ExtraBoxHasFields.show.Goals as goal

pub returns-in-Picture : goal.returns-in-Picture
returns-in-Picture g c =
    same_events extra_types ghosts.declared g.K.FieldSink.trace g.K.FieldSink.after c.show.result
    c.args.sink.now c.show.new.sink c.args.view c.args.self.now _ c.in-Picture.is c.show.ensures

pub returns-in-Sound : goal.returns-in-Sound
returns-in-Sound g c =
    same_events extra_types ghosts.declared g.K.FieldSink.trace g.K.FieldSink.after c.show-in-Sound.result
    c.args.sink.now c.show-in-Sound.new.sink c.args.view c.args.self.now _ c.in-Sound.is c.show-in-Sound.ensures

pub returns-in-Sample : goal.returns-in-Sample
returns-in-Sample g c =
    same_events extra_types ghosts.declared g.K.FieldSink.trace g.K.FieldSink.after c.show-in-Sample.result
    c.args.sink.now c.show-in-Sample.new.sink c.args.view c.args.self.now _ c.in-Sample.is c.show-in-Sample.ensures

pub returns-in-Track : goal.returns-in-Track
returns-in-Track g c =
    same_events extra_types ghosts.declared g.K.FieldSink.trace g.K.FieldSink.after c.show-in-Track.result
    c.args.sink.now c.show-in-Track.new.sink c.args.view c.args.self.now _ c.in-Track.is c.show-in-Track.ensures
