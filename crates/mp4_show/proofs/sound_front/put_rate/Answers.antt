use Rattle.std.proofs.Common.{[], ◌∷◌, codes}
use Rattle.mp4_show.proofs.Handed.{hands_more}
use Rattle.mp4_show.specs.Row.{shown_row}
use Rattle.mp4_show.specs.SoundFront.{second_row}
use Rattle.mp4_show.specs.declared.sound_front.TheConstants.{SECOND}
use Rattle.mp4_shown.specs.Event.{field, shown_of}
use Rattle.mp4_show.proofs.sound_front.put_rate.Goals as goal

pub returns : goal.returns
returns g c =
    hands_more g.K.FieldSink.trace g.K.FieldSink.after c.put_second_row.result
    (field (codes "audioSampleRate") (shown_of c.args.rate) ∷ []) (shown_row SECOND.now (second_row c.args.bytes.now))
    c.args.sink.now c.field.new.self c.put_second_row.new.sink c.in_ok-field.ensures c.put_second_row.ensures
