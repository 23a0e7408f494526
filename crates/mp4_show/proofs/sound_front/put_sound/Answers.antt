use Rattle.std.proofs.Common.{Result, Ok, Err, OnOk}
use Rattle.mp4_show.proofs.Handed.{all_members}
use Rattle.mp4_show.specs.SoundFront.{shown_sound, whole_sound}
use Rattle.mp4_show.specs.declared.sound_front.TheConstants.{COMMON, FIRST, SECOND}
use Rattle.mp4_shown.specs.Event.{shown_of}
use Rattle.mp4_show.proofs.sound_front.put_sound.Goals as goal

-- some value does what this one does
some : {A E : Type 0} (P : A → Type 0) (r : Result (Unit {0}) E) (x : A) → OnOk r (P x) → OnOk r ((y : A) × P y)
some P (Ok _) x p = (x, p)
some P (Err _) x p = tt

pub returns-clause-fields : goal.returns-clause-fields
returns-clause-fields g c = some _ c.put_with_rate.result c.rate_of-rate.result c.put_with_rate.ensures

pub returns-clause-whole : goal.returns-clause-whole
returns-clause-whole g c =
    let bytes = c.args.bytes.now in
    let rate = shown_of c.rate_of-rate.result in
    all_members g.K.FieldSink.trace g.K.FieldSink.after c.put_with_rate.result
    (shown_sound COMMON.now FIRST.now SECOND.now c.args.quicktime bytes rate) c.args.sink.now c.put_with_rate.new.sink
    (whole_sound COMMON.now FIRST.now SECOND.now c.args.quicktime bytes rate) c.put_with_rate.ensures
