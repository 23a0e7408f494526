-- The fragments starting at the index are still to be added.
use Rattle.std.proofs.Common.{◌≡◌, ◌++◌, ℕ, drop}
use Rattle.std.specs.BTreeMap.{get}
use Rattle.std.specs.Ordering.{nat_cmp}
use Rattle.std.specs.Prelude.{flat_map}
use Rattle.mp4_info.specs.RunTimes.{answer_times}
use Rattle.mp4_info.specs.Totals.{answer_pieces}
use Rattle.mp4_info.specs.TrackPieces.{pieces_in, times_in}
use Rattle.mp4_info.proofs.track_pieces.add_moof.Given as goal

abbrev pub invariant-loop-index : goal.invariant-loop-index
invariant-loop-index l = record {
  pieces : (q : ℕ) → pieces_in (get nat_cmp l.by_track q) ++ flat_map (answer_pieces q) (drop l.index l.answers)
      ≡ pieces_in (get nat_cmp l.initial.by_track q) ++ flat_map (answer_pieces q) l.answers;
  times : (q : ℕ) → times_in (get nat_cmp l.by_track q) ++ flat_map (answer_times q) (drop l.index l.answers)
      ≡ times_in (get nat_cmp l.initial.by_track q) ++ flat_map (answer_times q) l.answers;
}
