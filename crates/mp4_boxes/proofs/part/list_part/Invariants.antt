-- The text has the lines of the boxes before the offset.
use Rattle.std.proofs.Common.{ℕ, ◌≤◌, ◌-◌, List}
use Rattle.mp4_boxes.specs.Parts.{HasPart, LinesTo}
use Rattle.mp4_boxes.proofs.part.list_part.Given as goal

abbrev pub invariant-loop-next : goal.invariant-loop-next
invariant-loop-next l = record {
  least : l.fn.next ≤ l.next;
  told : (B rest : List ℕ) → HasPart B l.from l.part rest → LinesTo B l.initial.lines.items l.fn.next
      → LinesTo B l.lines.items l.next;
}

abbrev pub decreases-loop-next : goal.decreases-loop-next
decreases-loop-next l = l.read - l.next
