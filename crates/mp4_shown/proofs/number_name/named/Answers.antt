use Rattle.std.proofs.Common.{sym, ◌∙◌}
use Rattle.mp4_shown.proofs.Named.{named_at, not_named}
use Rattle.mp4_shown.proofs.number_name.named.Goals as goal

pub returns-in-Some : goal.returns-in-Some
returns-in-Some c =
    named_at c.args.meanings.now c.args.number c.in-Some.place _ (sym c.place_of.ensures.place ∙ c.in-Some.is)

pub returns-in-None : goal.returns-in-None
returns-in-None c = not_named c.args.meanings.now c.args.number (sym c.place_of.ensures.place ∙ c.in-None.is)
