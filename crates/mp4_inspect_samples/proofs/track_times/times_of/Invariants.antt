-- The tracks that are left give the other times.
use Rattle.std.proofs.Common.{◌≡◌, ℕ, length}
use Rattle.std.specs.BTreeMap.{get}
use Rattle.std.specs.Ordering.{nat_cmp}
use Rattle.std.specs.Prelude.{IfSome}
use Rattle.std.specs.Vec.Iter.{into_iter_items, into_iter_len}
use Rattle.mp4_frame.specs.FourCC.{four_cc_of}
use Rattle.mp4_frame.specs.declared.codes.TheConstants as codes
use Rattle.mp4_movie.specs.Infos.{AreInfos}
use Rattle.mp4_movie.specs.Levels.{all_in}
use Rattle.mp4_inspect_samples.proofs.TimeLists.{TimesSoFar}
use Rattle.mp4_inspect_samples.proofs.track_times.times_of.Given as goal

abbrev pub invariant-loop-info : goal.invariant-loop-info
invariant-loop-info g l = record {
  kept : l.walk ≡ l.fn.walk;
  so_far : IfSome l.fn.walk.bytes (λ file.
      AreInfos file 0 (all_in 1 (four_cc_of codes.TRAK) l.movie) l.fn.infos.items
      → TimesSoFar file l.movie (λ (q : ℕ). get nat_cmp l.times.by_track q) l.rest (into_iter_items l.info-iterator));
  count : into_iter_len l.info-iterator ≡ length (into_iter_items l.info-iterator);
}
