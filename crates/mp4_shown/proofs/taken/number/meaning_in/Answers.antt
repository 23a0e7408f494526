use Rattle.std.proofs.Common.{sym, ◌∙◌}
use Rattle.mp4_shown.proofs.Meanings.{meaning_at, no_meaning}
use Rattle.mp4_shown.proofs.taken.number.meaning_in.Goals as goal

pub returns-in-Some : goal.returns-in-Some
returns-in-Some c =
    meaning_at c.args.meanings.now c.args.number c.in-Some.place _ (sym c.place_of.ensures.place ∙ c.in-Some.is)

pub returns-in-None : goal.returns-in-None
returns-in-None c = no_meaning c.args.meanings.now c.args.number (sym c.place_of.ensures.place ∙ c.in-None.is)
