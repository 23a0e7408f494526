-- The laws of smhd, whose fields have fixed offsets.
use Rattle.std.proofs.Common.{[], ◌∷◌, refl, ap, subst, lit<, lit≤, ℕ, List}
use Rattle.std.specs.Int.{w16}
use Rattle.std.specs.Prelude.{ℤ}
use Rattle.std.proofs.lemmas.Int.{to_z-of_z}
use Rattle.mp4_frame.specs.Format.{IsBox}
use Rattle.mp4_frame.proofs.Rows.{one_run_again, one_run_is}
use Rattle.mp4_frame.proofs.Signed.{signed16}
use Rattle.mp4_frame.proofs.Framing.{own_normal_form, header_of_fields, fits_read, Number, Signed16, Fitting}
use Rattle.mp4_flat.specs.Smhd.{value_smhd, reads_smhd, fields_smhd, WritableSmhd, bytes_smhd, format_smhd}
use Rattle.mp4_frame.specs.Reading.{TakesNone}
use Rattle.mp4_frame.proofs.NoMemory.{fields_take_none}
use Rattle.mp4_frame.specs.Bytes.{number}

pub laws_smhd : IsBox reads_smhd format_smhd
unfolding bytes_smhd reads_smhd
laws_smhd = record {
  header = λ v w. header_of_fields _ w.0 refl;
  normal_form = λ v w. own_normal_form v refl w;
  read_back = λ v w rest start top.
      one_run_again 8 6 value_smhd (fields_smhd v) rest v w.0 (lit≤ tt)
      (ap (λ (z : ℤ). record v { balance = z }) (to_z-of_z w16 v.balance w.1));
  stable = λ bytes start long v are e. (
    refl,
    λ _. subst WritableSmhd (one_run_is 8 6 value_smhd bytes v e) (
      (lit< tt, (lit< tt, fits_read bytes are (Number 8 1 ∷ Number 9 3 ∷ Signed16 12 ∷ Fitting 2 0 (lit< tt) ∷ []))),
      signed16 bytes 12 are,
    ),
  );
}

-- reading an smhd takes no memory
pub smhd_takes_none : (bytes : List ℕ) (start size : ℕ) → TakesNone (reads_smhd bytes start size)
unfolding reads_smhd
smhd_takes_none bytes start size = fields_take_none bytes 8 6 (value_smhd (number bytes))
