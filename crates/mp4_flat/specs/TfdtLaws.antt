-- The laws of tfdt, whose time has two widths.
use Rattle.std.proofs.Common.{◌<◌, ◌^◌, [], ◌∷◌, refl, subst, lit<, lit≤, arith, ℕ, List}
use Rattle.mp4_frame.specs.Format.{IsBox}
use Rattle.mp4_frame.specs.Bytes.{number}
use Rattle.mp4_frame.proofs.Framing.{own_normal_form, header_of_fields, fits_read, Number}
use Rattle.mp4_flat.specs.Time.{time_width}
use Rattle.mp4_flat.specs.TimeLaws.{timed_back, timed_is, timed_takes_none}
use Rattle.mp4_flat.specs.Tfdt.{value_tfdt, reads_tfdt, size_tfdt, fields_tfdt, WritableTfdt, bytes_tfdt, format_tfdt}
use Rattle.mp4_flat.specs.declared.tfdt.TfdtBox.{TfdtBox}
use Rattle.mp4_frame.specs.Reading.{TakesNone}

pub laws_tfdt : IsBox reads_tfdt format_tfdt
unfolding bytes_tfdt reads_tfdt
laws_tfdt = record {
  header = λ v w. header_of_fields _ w.fit (omega arith);
  normal_form = λ v w. own_normal_form v refl w;
  read_back = λ v w rest start top.
      timed_back (λ t. t) value_tfdt fields_tfdt (λ v. v) (λ k. record v { version = k }) rest v.version w
      (refl, lit≤ tt, refl) (refl, lit≤ tt, refl);
  stable = λ bytes start long v are e.
      let is = timed_is (λ t. t) value_tfdt bytes v e in
      let t = time_width (number bytes 8 1) in (
        refl,
        subst (λ (x : TfdtBox). size_tfdt x < 2 ^ 32 → WritableTfdt x) is.1
            (λ small. record {
              known = is.0;
              fit = (small, (lit< tt, fits_read bytes are (Number 8 1 ∷ Number 9 3 ∷ Number 12 t ∷ [])));
            }),
      );
}

-- reading a tfdt takes no memory
pub tfdt_takes_none : (bytes : List ℕ) (start size : ℕ) → TakesNone (reads_tfdt bytes start size)
unfolding reads_tfdt
tfdt_takes_none bytes start size = timed_takes_none (λ t. t) value_tfdt bytes
