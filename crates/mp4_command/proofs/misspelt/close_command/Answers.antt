use Rattle.std.proofs.Common.{rules, ap, sym, drop_of_length-le, ◌∙◌}
use Rattle.std.specs.List.{find}
use Rattle.clap.proofs.WalkLemmas.{find_here}
use Rattle.mp4_command.specs.Misspelt.{is_close}
use Rattle.mp4_command.proofs.misspelt.close_command.Goals as goal

pub returns-then-branch : goal.returns-then-branch
returns-then-branch c =
    find_here (λ command. is_close c.args.word.now command.now) c.args.commands.now c.loop-command.command-index _
    c.loop-command-test.true (search rules) (sym c.in_ok-is_close.ensures ∙ c.if-branch.true) c.loop-command.invariant

pub returns : goal.returns
returns c =
    sym (ap (find (λ command. is_close c.args.word.now command.now))
    (drop_of_length-le c.args.commands.now {i = c.loop-command.command-index} (search rules)))
    ∙ c.loop-command.invariant
