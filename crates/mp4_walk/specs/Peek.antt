-- The first numbers of a content. In some boxes they determine how to read the boxes inside or after them.
use Rattle.std.specs.Prelude.{ℕ, ◌+◌, ◌-◌, nat_lt, List, if◌then◌else◌}
use Rattle.mp4_frame.specs.Bytes.{number}
use Rattle.mp4_walk.specs.declared.peek.Peek.{Peek}

-- the first numbers of a content of which nothing is known, or which has no bytes
abbrev pub no_content : Peek
no_content = record { length = 0; first = 0; version = 0; handler = 0; entry_version = 0 }

-- the number of w bytes at o, or 0 if the box ends before the number does
abbrev pub number_or_zero : List ℕ → ℕ → ℕ → ℕ → ℕ
number_or_zero bytes end o w = if nat_lt end (o + w) then 0 else number bytes o w

-- The first numbers of the content between `content` and `end`: the version of a box that has one (ISO/IEC 14496-12,
-- 4.2), the handler of an `hdlr` (8.4.3), and the version of a sound entry (12.2.3).
abbrev pub peek : List ℕ → ℕ → ℕ → Peek
peek bytes content end = record {
  length = end - content;
  first = number_or_zero bytes end content 4;
  version = number_or_zero bytes end content 1;
  handler = number_or_zero bytes end (content + 8) 4;
  entry_version = number_or_zero bytes end (content + 8) 2;
}
