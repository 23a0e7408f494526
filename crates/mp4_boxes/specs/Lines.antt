-- The text of a list of boxes: a line for each.
use Rattle.std.specs.Prelude.{ℕ, Bool, nat_le, ◌&&◌, List, ◌++◌, codes, if◌then◌else◌}
use Rattle.std.specs.List.{list_all, flat_map}
use Rattle.std.specs.Fmt.{decimal}
use Rattle.hex.specs.Hex.{encode_lower}
use Rattle.mp4_frame.specs.Bytes.{be_bytes}
use Rattle.mp4_frame.specs.BoxType.{code_of}
use Rattle.mp4_frame.specs.declared.list.BoxSpan.{BoxSpan}
use Rattle.mp4_boxes.specs.Outcome.{line}

-- a byte is a printable character of ASCII: from the space to the tilde
abbrev pub is_printable : ℕ → Bool
is_printable byte = nat_le 0x20 byte && nat_le byte 0x7E

-- the text of a code: its four characters if each is printable, else 0x and its hexadecimal digits
abbrev pub code_text : List ℕ → List ℕ
code_text code = if list_all is_printable code then code else codes "0x" ++ encode_lower code

-- the line of a box: position, length and name, with one space between
abbrev pub line_of : BoxSpan → List ℕ
line_of span = line (decimal span.position ++ codes " " ++ decimal span.length ++ codes " "
    ++ code_text (be_bytes 4 (code_of span.name)))

-- the lines of a list of boxes
abbrev pub lines : List BoxSpan → List ℕ
lines spans = flat_map line_of spans
