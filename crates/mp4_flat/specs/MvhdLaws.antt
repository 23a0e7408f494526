-- The laws of mvhd, whose times have two widths.
use Rattle.std.proofs.Common.{ℕ, ◌+◌, ◌*◌, ◌<◌, ◌^◌, [], ◌∷◌, ◌++◌, refl, ap, subst, lit<, lit≤, arith, List}
use Rattle.mp4_frame.specs.Format.{IsBox}
use Rattle.mp4_frame.specs.Bytes.{number}
use Rattle.mp4_frame.proofs.Framing.{own_normal_form, header_of_fields, fits_read, Number, Fitting}
use Rattle.mp4_flat.specs.MatrixLaws.{matrix_back, origins_matrix, matrix_read}
use Rattle.mp4_flat.specs.Time.{time_width}
use Rattle.mp4_flat.specs.TimeLaws.{timed_size-known, timed_back, timed_is, timed_takes_none}
use Rattle.mp4_flat.specs.Mvhd.{value_mvhd, reads_mvhd, size_mvhd, fields_mvhd, WritableMvhd, bytes_mvhd, format_mvhd}
use Rattle.mp4_flat.specs.declared.matrix.Matrix.{Matrix}
use Rattle.mp4_flat.specs.declared.mvhd.MvhdBox.{MvhdBox}
use Rattle.mp4_frame.specs.Reading.{TakesNone}

pub laws_mvhd : IsBox reads_mvhd format_mvhd
unfolding bytes_mvhd reads_mvhd
laws_mvhd = record {
  header = λ v w. header_of_fields _ w.0.fit (omega (arith, timed_size-known (λ t. 4 + 3 * t) v.version w.0.known));
  normal_form = λ v w. own_normal_form v refl w;
  read_back = λ v w rest start top.
      let back = λ (k : ℕ). ap (λ (m : Matrix). record v { version = k; matrix = m }) (matrix_back v.matrix w.1) in
      timed_back (λ t. 84 + 3 * t) value_mvhd fields_mvhd (λ v. v) (λ k. record v { version = k }) rest v.version w.0
      (refl, lit≤ tt, back 0) (refl, lit≤ tt, back 1);
  stable = λ bytes start long v are e.
      let is = timed_is (λ t. 84 + 3 * t) value_mvhd bytes v e in
      let t = time_width (number bytes 8 1) in
      let fits = fits_read bytes are
      (Number 8 1 ∷ Number 9 3 ∷ Number 12 t ∷ Number (12 + t) t ∷ Number (12 + 2 * t) 4 ∷ Number (16 + 2 * t) t
      ∷ Number (16 + 3 * t) 4 ∷ Number (20 + 3 * t) 2 ∷ Fitting 10 0 (lit< tt) ∷ origins_matrix (32 + 3 * t)
      ++ Fitting 24 0 (lit< tt) ∷ Number (92 + 3 * t) 4 ∷ []) in (
        refl,
        subst (λ (x : MvhdBox). size_mvhd x < 2 ^ 32 → WritableMvhd x) is.1
            (λ small. (record { known = is.0; fit = (small, (lit< tt, fits)) }, matrix_read bytes (32 + 3 * t) are)),
      );
}

-- reading an mvhd takes no memory
pub mvhd_takes_none : (bytes : List ℕ) (start size : ℕ) → TakesNone (reads_mvhd bytes start size)
unfolding reads_mvhd
mvhd_takes_none bytes start size = timed_takes_none (λ t. 84 + 3 * t) value_mvhd bytes
