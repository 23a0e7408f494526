-- The plan, and the file after the splices that are left, are the file after all of them.
use Rattle.std.proofs.Common.{◌≡◌, ◌++◌, ℕ, List, length}
use Rattle.std.specs.Vec.Iter.{into_iter_items, into_iter_len}
use Rattle.mp4_remux.specs.Pieces.{spelled}
use Rattle.mp4_remux.specs.Splices.{spliced, spliced_from}
use Rattle.mp4_walk.specs.Source.{IsWindow}
use Rattle.mp4_remux_files.proofs.planning.plan_parts.Given as goal

abbrev pub invariant-loop-splice : goal.invariant-loop-splice
invariant-loop-splice l = record {
  planned : (B : List ℕ) → IsWindow B l.begin l.movie
      → spelled B l.plan ++ spliced_from B l.at (into_iter_items l.splice-iterator) ≡ spliced B l.fn.splices.items;
  count : into_iter_len l.splice-iterator ≡ length (into_iter_items l.splice-iterator);
}
