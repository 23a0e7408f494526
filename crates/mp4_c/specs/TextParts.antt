-- Parts of a text for C.
use Rattle.std.specs.Prelude.{ℕ, List, length}
use Rattle.mp4_c.specs.declared.text_part.TextPart.{TextPart}

-- the part that begins at this position and has these bytes
abbrev pub part_at : ℕ → List ℕ → TextPart
part_at at bytes = record { position = at; length = length bytes }
