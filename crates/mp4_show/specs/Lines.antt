-- The text of a sink, and how it goes on: pieces, words and lines, and where a line is broken.
use Rattle.std.specs.Prelude.{ℕ, ◌+◌, ◌-◌, ◌*◌, ◌^◌, nat_lt, List, [], ◌∷◌, ◌++◌, length, replicate, min, max, codes}
use Rattle.std.specs.Prelude.{if◌then◌else◌, string_bytes}
use Rattle.std.specs.Str.{chars}
use Rattle.mp4_show.specs.Texts.{colored}
use Rattle.mp4_show.specs.declared.look.Look.{Look}
use Rattle.mp4_show.specs.declared.text_sink.Before.{Before}
use Rattle.mp4_show.specs.declared.text_sink.Before.TheVariants as places
use Rattle.mp4_show.specs.declared.text_sink.OpenList.{OpenList}
use Rattle.mp4_show.specs.declared.text_sink.TextSink.{TextSink}

-- The state of a sink: its text, the column in which its last line ends, the indentation of the lines of the box, the
-- separator before the next piece, the open lists, the outermost first, and the look.
pub record TextState : Type 0 where
  pub text : List ℕ
  pub column : ℕ
  pub indent : ℕ
  pub before : Before
  pub lists : List OpenList
  pub look : Look

abbrev pub state_of : TextSink → TextState
state_of sink = record {
  text = string_bytes sink.text;
  column = sink.column;
  indent = sink.indent;
  before = sink.before;
  lists = sink.lists.items;
  look = sink.look;
}

-- no text, for a box at this depth, of whose line `column` columns are taken
abbrev pub begun : Look → ℕ → ℕ → TextState
begun look depth column = record {
  text = [];
  column = column;
  indent = 2 * min depth 64;
  before = places.Space;
  lists = [];
  look = look;
}

-- a number, or the largest of 64 bits if it is larger
abbrev pub fit : ℕ → ℕ
fit n = min n (2 ^ 64 - 1)

-- more text in the last line, whose characters take a column each
abbrev pub wrote : TextState → List ℕ → TextState
wrote s more = record s { text = s.text ++ more; column = fit (s.column + length (chars more)) }

-- a new line, with `further` more spaces than the line of the box
abbrev pub new_line : TextState → ℕ → TextState
new_line s further = record s {
  text = s.text ++ (10 ∷ replicate (fit (s.indent + further)) 32);
  column = fit (s.indent + further);
}

-- how many columns are left in the last line
abbrev pub room : TextState → ℕ
room s = s.look.width - s.column

-- how many more spaces than the line of the box those of entries have
abbrev pub further : TextState → ℕ
further s = fit (length s.lists * 4)

-- what comes before a piece of `size` columns: a space or a comma, and a new line if this one has no room for both, or
-- after the entries of a list
abbrev pub separated_by : Before → TextState → ℕ → TextState
separated_by places.Line s size = new_line s (fit (further s + 2))
separated_by places.Space s size =
    if nat_lt size (room s) then wrote s (codes " ") else new_line s (max (further s) 4)
separated_by places.Comma s size =
    if nat_lt (fit (size + 2)) (room s) then wrote s (codes ", ")
    else new_line (wrote s (codes ",")) (max (further s) 4)

unfoldable pub separated : TextState → ℕ → TextState
separated s size = separated_by s.before s size

-- a piece after what is there
unfoldable pub with_piece : TextState → List ℕ → TextState
with_piece s piece = record (wrote (separated s (length (chars piece))) piece) { before = places.Comma }

-- the next piece follows a space
abbrev pub after_space : TextState → TextState
after_space s = record s { before = places.Space }

-- words after a space, and words in a colour, if colours are wanted
abbrev pub with_words : TextState → List ℕ → TextState
with_words s words = after_space (with_piece (after_space s) words)

abbrev pub in_color : TextState → List ℕ → List ℕ → TextState
in_color s words color = record s {
  text = s.text ++ colored s.look.color color words;
  column = fit (s.column + length (chars words));
}

unfoldable pub with_colored : TextState → List ℕ → List ℕ → TextState
with_colored s words color = in_color (with_words s []) words color
