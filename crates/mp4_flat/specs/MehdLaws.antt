-- The laws of mehd, whose time has two widths.
use Rattle.std.proofs.Common.{◌<◌, ◌^◌, [], ◌∷◌, refl, subst, lit<, lit≤, arith, ℕ, List}
use Rattle.mp4_frame.specs.Format.{IsBox}
use Rattle.mp4_frame.specs.Bytes.{number}
use Rattle.mp4_frame.proofs.Framing.{own_normal_form, header_of_fields, fits_read, Number}
use Rattle.mp4_flat.specs.Time.{time_width}
use Rattle.mp4_flat.specs.TimeLaws.{timed_size-known, timed_back, timed_is, timed_takes_none}
use Rattle.mp4_flat.specs.Mehd.{value_mehd, reads_mehd, size_mehd, fields_mehd, WritableMehd, bytes_mehd, format_mehd}
use Rattle.mp4_flat.specs.declared.mehd.MehdBox.{MehdBox}
use Rattle.mp4_frame.specs.Reading.{TakesNone}

pub laws_mehd : IsBox reads_mehd format_mehd
unfolding bytes_mehd reads_mehd
laws_mehd = record {
  header = λ v w. header_of_fields _ w.fit (omega (arith, timed_size-known (λ t. t) v.version w.known));
  normal_form = λ v w. own_normal_form v refl w;
  read_back = λ v w rest start top.
      timed_back (λ t. t) value_mehd fields_mehd (λ v. v) (λ k. record v { version = k }) rest v.version w
      (refl, lit≤ tt, refl) (refl, lit≤ tt, refl);
  stable = λ bytes start long v are e.
      let is = timed_is (λ t. t) value_mehd bytes v e in
      let t = time_width (number bytes 8 1) in (
        refl,
        subst (λ (x : MehdBox). size_mehd x < 2 ^ 32 → WritableMehd x) is.1
            (λ small. record {
              known = is.0;
              fit = (small, (lit< tt, fits_read bytes are (Number 8 1 ∷ Number 9 3 ∷ Number 12 t ∷ [])));
            }),
      );
}

-- reading an mehd takes no memory
pub mehd_takes_none : (bytes : List ℕ) (start size : ℕ) → TakesNone (reads_mehd bytes start size)
unfolding reads_mehd
mehd_takes_none bytes start size = timed_takes_none (λ t. t) value_mehd bytes
