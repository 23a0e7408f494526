-- The splices that are passed are in their parts.
use Rattle.std.proofs.Common.{◌≡◌, ◌++◌, length}
use Rattle.std.specs.List.{AllZip}
use Rattle.std.specs.Prelude.{filter, not}
use Rattle.std.specs.Vec.Iter.{into_iter_items, into_iter_len}
use Rattle.mp4_remux.specs.Splices.{box_end, is_top}
use Rattle.mp4_remux_files.specs.EditedFile.{IsInner}
use Rattle.mp4_remux_files.proofs.editing.parted.Given as goal

abbrev pub invariant-loop-splice : goal.invariant-loop-splice
invariant-loop-splice l = record {
  end : l.end ≡ box_end l.movie;
  tops : l.tops.items ≡ filter is_top l.yielded;
  inner :
      AllZip (IsInner l.movie.position (box_end l.movie)) (filter (λ s. not (is_top s)) l.yielded) l.inner.items;
  left : l.fn.splices.items ≡ l.yielded ++ into_iter_items l.splice-iterator;
  count : into_iter_len l.splice-iterator ≡ length (into_iter_items l.splice-iterator);
}
