-- The faults of the parts before the current one are appended.
use Rattle.std.proofs.Common.{◌≡◌, List, ◌++◌, take}
use Rattle.std.specs.List.{filter_map}
use Rattle.mp4_check.specs.FaultValues.{values_of}
use Rattle.mp4_check.specs.Parts.{needed}
use Rattle.mp4_content.specs.Paths.{AreOpen, Code, parts_of}
use Rattle.mp4_check.specs.Siblings.{lacks, parent_code}
use Rattle.mp4_check.proofs.MissingParts.{all_at}
use Rattle.mp4_check.proofs.box_faults.push_missing.Given as goal

abbrev pub invariant-loop-part : goal.invariant-loop-part
invariant-loop-part l = (opened : List (List Code)) → AreOpen opened l.paths.levels.items
    → values_of l.faults.items
    ≡ values_of l.fn.faults.items
    ++ all_at l.found.position (parts_of opened)
    (filter_map (lacks l.found l.after) (take l.part-index (needed (parent_code l.found))))
