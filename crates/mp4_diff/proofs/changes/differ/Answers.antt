use Rattle.std.proofs.Common.{◌<◌, length, rules, subst, sym}
use Rattle.mp4_diff.proofs.DiffSteps.{change_differs, not_none}
use Rattle.mp4_diff.specs.Differences.{places_of}
use Rattle.mp4_diff.specs.declared.changes.Change.{Change}
use Rattle.mp4_diff.proofs.changes.differ.Goals as goal

pub returns-then-not-is_empty : goal.returns-then-not-is_empty
returns-then-not-is_empty c =
    let changes = c.args.changes.now in
    let here = c.index-changes-index.result in
    let inside : c.changes.index < length changes = search rules in
    let some : 0 < length here.whats.items = search rules in
    sym (not_none (length (places_of changes)) (change_differs changes c.changes.index here inside
    (subst (λ (x : Change). 0 < length x.whats.items) c.index-changes-index.is some)))
