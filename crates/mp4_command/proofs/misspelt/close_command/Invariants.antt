-- The first close command is among those that are left.
use Rattle.std.proofs.Common.{◌≡◌, drop}
use Rattle.std.specs.List.{find}
use Rattle.mp4_command.specs.Misspelt.{is_close}
use Rattle.mp4_command.proofs.misspelt.close_command.Given as goal

abbrev pub invariant-loop-command : goal.invariant-loop-command
invariant-loop-command l =
    find (λ command. is_close l.word command.now) (drop l.command-index l.commands)
    ≡ find (λ command. is_close l.word command.now) l.commands
