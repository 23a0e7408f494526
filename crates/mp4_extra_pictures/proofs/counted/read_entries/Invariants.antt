use Rattle.std.proofs.Common.{◌≡◌, ◌+◌, ◌≤◌, length}
use Rattle.std.specs.List.{sum_by}
use Rattle.mp4_frame.proofs.Decided.{Decides}
use Rattle.mp4_declared.specs.DeclaredEntry.{entry_shape}
use Rattle.mp4_declared.specs.Each.{counted}
use Rattle.mp4_declared.proofs.OneByOne.{continued}
use Rattle.mp4_extra_pictures.proofs.counted.read_entries.Given as goal

abbrev pub invariant-loop-left : goal.invariant-loop-left
invariant-loop-left g l =
    let s = entry_shape g.X.Shape.Shape.shape g.X.DeclaredEntry.layout in
    let from = counted s l.context l.bytes l.end in
    record {
      told : Decides (continued l.entries (from l.left l.next)) (from l.fn.count l.fn.at);
      reached : l.next ≡ l.fn.at + sum_by (s.size l.context) l.entries;
      within : l.next ≤ length l.bytes;
    }

abbrev pub decreases-loop-left : goal.decreases-loop-left
decreases-loop-left g l = l.left
