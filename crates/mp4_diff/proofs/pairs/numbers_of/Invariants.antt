-- The earlier boxes are entered, and have their numbers.
use Rattle.std.proofs.Common.{◌≡◌, [], List, fold, take}
use Rattle.std.specs.BTreeMap.{get_by}
use Rattle.std.specs.Cmp.Lexicographic.{slice_cmp}
use Rattle.std.specs.Ordering.{nat_cmp}
use Rattle.mp4_content.specs.Paths.{AreOpen, entered}
use Rattle.mp4_content.specs.declared.path.Part.{Part}
use Rattle.mp4_diff.specs.Pairs.{key_of, partner_in, paths}
use Rattle.mp4_diff.proofs.pairs.numbers_of.Given as goal

abbrev pub invariant-boxes : goal.invariant-boxes
invariant-boxes l = record {
  opened : AreOpen (fold entered [] (take l.index l.boxes)) l.paths.levels.items;
  so_far : (path : List Part) → get_by (λ key. slice_cmp nat_cmp (key_of path) key.items) l.by_path
      ≡ partner_in (paths (take l.index l.boxes)) path;
}
