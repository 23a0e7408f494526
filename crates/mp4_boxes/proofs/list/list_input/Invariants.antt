-- The bytes that were read end with the front of the part, which is not done yet. The text has the lines of the boxes
-- before `next` of each input that begins with the bytes read.
use Rattle.std.proofs.Common.{◌≡◌, ℕ, ◌≤◌, ◌<◌, ◌+◌, List, ◌++◌, take, vec_len}
use Rattle.std.specs.Io.KnownBytes.{Consumes}
use Rattle.mp4_boxes.specs.Parts.{HasEnd, LinesIn}
use Rattle.mp4_boxes.proofs.list.list_input.Given as goal

abbrev pub invariant-loop : goal.invariant-loop
invariant-loop g l = record {
  room : vec_len l.part ≡ 65536;
  few : l.place.held < 16;
  order : l.place.from ≤ l.place.next;
  within : l.place.from ≤ l.limit;
  mark : l.input.failed ≡ l.initial.input.failed;
  told : (read : List ℕ)
      × Consumes (g.R.Read.remaining l.initial.input.inner) (g.R.Read.remaining l.input.inner) read
      × HasEnd read l.place.from (take l.place.held l.part.items)
      × ((more : List ℕ) → LinesIn (read ++ more) (l.place.from + l.place.held) l.lines.items l.place.next);
}
