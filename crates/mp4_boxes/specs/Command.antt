-- The commands, and the words that name them.
use Rattle.std.specs.Prelude.{◌≡◌, ℕ, List, [], ◌∷◌, codes}
use Rattle.mp4_boxes.specs.declared.command.Command.{Command}
use Rattle.mp4_boxes.specs.declared.command.Command.TheVariants as commands

-- the word of a command
abbrev pub word_of : Command → List ℕ
word_of commands.Normal = codes "normal"
word_of commands.List = codes "list"

-- the words after the program's name are only the word of the command
abbrev pub Names : List (List ℕ) → Command → Type 0
Names words command = words ≡ word_of command ∷ []
