-- The spans of boxes, for C (ISO/IEC 14496-12, 4.2).
use Rattle.std.specs.Prelude.{List, ℕ}
use Rattle.mp4_frame.specs.BoxType.{code_of}
use Rattle.mp4_frame.specs.Heads.{header_length}
use Rattle.mp4_frame.specs.declared.list.BoxSpan.{BoxSpan}
use Rattle.mp4_c.specs.declared.list.Span.{Span}

-- the span of a box of the buffer B: its position, its length, the length of its header, and its code
abbrev pub span_in : List ℕ → BoxSpan → Span
span_in B s =
    record {
      position = s.position;
      length = s.length;
      header_length = header_length B s.position;
      code = code_of s.name;
    }
