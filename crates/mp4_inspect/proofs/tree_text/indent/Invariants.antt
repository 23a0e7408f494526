-- Two spaces are put for each turn.
use Rattle.std.proofs.Common.{◌≡◌, ◌*◌, replicate, string_bytes}
use Rattle.mp4_inspect.proofs.tree_text.indent.Given as goal

abbrev pub invariant-loop : goal.invariant-loop
invariant-loop l = string_bytes l.out ≡ replicate (2 * l.counter) 32
