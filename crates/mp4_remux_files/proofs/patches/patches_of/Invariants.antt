-- The walk is the same, and the splices are those of the boxes before it.
use Rattle.std.proofs.Common.{◌≡◌, drop}
use Rattle.mp4_remux_files.proofs.Patching.{ArePatchedAfter}
use Rattle.mp4_remux_files.proofs.patches.patches_of.Given as goal

abbrev pub invariant-loop-index : goal.invariant-loop-index
invariant-loop-index g l = record {
  walk : l.walk ≡ l.fn.walk;
  patched : ArePatchedAfter l.fn.walk.bytes l.splices l.fragment (drop l.index l.boxes) l.boxes l.patches.items;
}
