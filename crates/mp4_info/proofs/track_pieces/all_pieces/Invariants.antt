-- The fragments of the moofs starting at the index are still to be added.
use Rattle.std.proofs.Common.{◌≡◌, ◌++◌, ℕ, drop}
use Rattle.std.specs.BTreeMap.{get}
use Rattle.std.specs.Ordering.{nat_cmp}
use Rattle.mp4_info.specs.RunTimes.{fragment_times_by}
use Rattle.mp4_info.specs.Totals.{pieces_of}
use Rattle.mp4_info.specs.TrackPieces.{pieces_in, times_in}
use Rattle.mp4_info.proofs.track_pieces.all_pieces.Given as goal

abbrev pub invariant-loop-index : goal.invariant-loop-index
invariant-loop-index l = record {
  pieces : (q : ℕ) → pieces_in (get nat_cmp l.by_track q) ++ pieces_of q (drop l.index l.moofs) ≡ pieces_of q l.moofs;
  times : (q : ℕ) → times_in (get nat_cmp l.by_track q) ++ fragment_times_by q (drop l.index l.moofs)
      ≡ fragment_times_by q l.moofs;
}
