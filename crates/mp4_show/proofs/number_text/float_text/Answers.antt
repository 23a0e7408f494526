use Rattle.mp4_show.proofs.Floats.{other_shown, whole_shown}
use Rattle.mp4_show.proofs.number_text.float_text.Goals as goal

pub returns-in-Some : goal.returns-in-Some
returns-in-Some c =
    let cut = c.in-Some.ensures.cases in
    whole_shown c.args.decimal.now c.in-Some.whole.now cut.0 cut.1.0 cut.1.1 cut.2

pub returns-in-None : goal.returns-in-None
returns-in-None c = other_shown c.args.decimal.now c.in-None.ensures.cases
