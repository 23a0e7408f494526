-- The search for the parts that are left has the same result.
use Rattle.std.proofs.Common.{◌≡◌, drop}
use Rattle.mp4_walk.specs.Paths.{at_path}
use Rattle.mp4_remux.proofs.PathSearch.{reached}
use Rattle.mp4_remux.proofs.edits.finding.box_by.Given as goal

abbrev pub invariant-loop-part : goal.invariant-loop-part
invariant-loop-part l = record {
  deep : l.depth ≡ l.part-index;
  same :
      reached l.last l.depth (drop l.part-index l.parts) l.rest
      ≡ at_path 0 l.parts l.boxes;
}
