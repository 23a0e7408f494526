use Rattle.std.proofs.Common.{sym, ◌∙◌}
use Rattle.mp4_shown.proofs.TakenPlaces.{at_place, is_there, nowhere}
use Rattle.mp4_shown.proofs.taken.object.place_of.Goals as goal

pub returns-in-Some-clause-there : goal.returns-in-Some-clause-there
returns-in-Some-clause-there c =
    is_there c.args.name.now c.args.members.now c.in-Some.place (sym c.position_of.ensures.place ∙ c.in-Some.is)

pub returns-in-Some-clause-found : goal.returns-in-Some-clause-found
returns-in-Some-clause-found c = λ d.
    at_place c.args.name.now c.args.members.now c.in-Some.place d (sym c.position_of.ensures.place ∙ c.in-Some.is)

pub returns-in-None-clause-none : goal.returns-in-None-clause-none
returns-in-None-clause-none c =
    nowhere c.args.name.now c.args.members.now (sym c.position_of.ensures.place ∙ c.in-None.is)
