-- The texts are those of the words before the number.
use Rattle.std.proofs.Common.{◌≡◌, IfSome, map, string_bytes, take}
use Rattle.mp4_command.specs.Words.{word_text}
use Rattle.mp4_command.proofs.words.words_of.Given as goal

abbrev pub invariant-loop-number : goal.invariant-loop-number
invariant-loop-number g l =
    IfSome (g.C.CommandLine.all l.line)
    (λ words. map string_bytes l.texts.items ≡ map word_text (take l.number words))
