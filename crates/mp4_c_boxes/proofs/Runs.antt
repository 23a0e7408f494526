-- The rows of a run: their number, and the row at an index.
use Rattle.std.proofs.Common.{◌≡◌, ℕ, ◌<◌, length, Some, ap, subst, zero-add, ◌∙◌}
use Rattle.std.specs.Prelude.{slice_get}
use Rattle.std.proofs.lemmas.List.FromFn.{length-map-range_with_len, get_or-map-range_with_len}
use Rattle.std.proofs.lemmas.Option.{slice_get-get_or}
use Rattle.mp4_tables.specs.declared.trun.TrunBox.{TrunBox}
use Rattle.mp4_c_boxes.specs.Fragments.{count_trun, row_trun, rows_trun}

pub length_of_rows : (v : TrunBox) → length (rows_trun v) ≡ count_trun v
length_of_rows v = length-map-range_with_len (row_trun v) 0 (count_trun v)

pub row_of_rows : (v : TrunBox) (i : ℕ) → i < length (rows_trun v) → slice_get (rows_trun v) i ≡ Some (row_trun v i)
row_of_rows v i within =
    let below : i < count_trun v = subst (λ (n : ℕ). i < n) (length_of_rows v) within in
    slice_get-get_or (rows_trun v) i (row_trun v i) within
    ∙ ap Some (get_or-map-range_with_len (row_trun v) 0 (count_trun v) i i (row_trun v i) below (zero-add i))
