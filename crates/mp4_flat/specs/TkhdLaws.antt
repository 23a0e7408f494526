-- The laws of tkhd, whose times have two widths.
use Rattle.std.proofs.Common.{ℕ, ◌+◌, ◌*◌, ◌<◌, ◌^◌, [], ◌∷◌, ◌++◌, refl, ap, subst, lit<, lit≤, arith, List}
use Rattle.mp4_frame.specs.Format.{IsBox}
use Rattle.mp4_frame.specs.Bytes.{number}
use Rattle.mp4_frame.proofs.Framing.{own_normal_form, header_of_fields, fits_read, Number, Fitting}
use Rattle.mp4_flat.specs.MatrixLaws.{matrix_back, origins_matrix, matrix_read}
use Rattle.mp4_flat.specs.Time.{time_width}
use Rattle.mp4_flat.specs.TimeLaws.{timed_size-known, timed_back, timed_is, timed_takes_none}
use Rattle.mp4_flat.specs.Tkhd.{value_tkhd, reads_tkhd, size_tkhd, fields_tkhd, WritableTkhd, bytes_tkhd, format_tkhd}
use Rattle.mp4_flat.specs.declared.matrix.Matrix.{Matrix}
use Rattle.mp4_flat.specs.declared.tkhd.TkhdBox.{TkhdBox}
use Rattle.mp4_frame.specs.Reading.{TakesNone}

pub laws_tkhd : IsBox reads_tkhd format_tkhd
unfolding bytes_tkhd reads_tkhd
laws_tkhd = record {
  header = λ v w. header_of_fields _ w.0.fit (omega (arith, timed_size-known (λ t. 8 + 3 * t) v.version w.0.known));
  normal_form = λ v w. own_normal_form v refl w;
  read_back = λ v w rest start top.
      let back = λ (k : ℕ). ap (λ (m : Matrix). record v { version = k; matrix = m }) (matrix_back v.matrix w.1) in
      timed_back (λ t. 68 + 3 * t) value_tkhd fields_tkhd (λ v. v) (λ k. record v { version = k }) rest v.version w.0
      (refl, lit≤ tt, back 0) (refl, lit≤ tt, back 1);
  stable = λ bytes start long v are e.
      let is = timed_is (λ t. 68 + 3 * t) value_tkhd bytes v e in
      let t = time_width (number bytes 8 1) in
      let fits = fits_read bytes are
      (Number 8 1 ∷ Number 9 3 ∷ Number 12 t ∷ Number (12 + t) t ∷ Number (12 + 2 * t) 4 ∷ Fitting 4 0 (lit< tt)
      ∷ Number (20 + 2 * t) t ∷ Fitting 8 0 (lit< tt)
      ∷ Number (28 + 3 * t) 2 ∷ Number (30 + 3 * t) 2 ∷ Number (32 + 3 * t) 2 ∷ Fitting 2 0 (lit< tt)
      ∷ origins_matrix (36 + 3 * t) ++ Number (72 + 3 * t) 4 ∷ Number (76 + 3 * t) 4 ∷ []) in (
        refl,
        subst (λ (x : TkhdBox). size_tkhd x < 2 ^ 32 → WritableTkhd x) is.1
            (λ small. (record { known = is.0; fit = (small, (lit< tt, fits)) }, matrix_read bytes (36 + 3 * t) are)),
      );
}

-- reading a tkhd takes no memory
pub tkhd_takes_none : (bytes : List ℕ) (start size : ℕ) → TakesNone (reads_tkhd bytes start size)
unfolding reads_tkhd
tkhd_takes_none bytes start size = timed_takes_none (λ t. 68 + 3 * t) value_tkhd bytes
