-- The laws of mfhd, whose fields have fixed offsets.
use Rattle.std.proofs.Common.{[], ◌∷◌, refl, subst, lit<, lit≤, ℕ, List}
use Rattle.mp4_frame.specs.Format.{IsBox}
use Rattle.mp4_frame.proofs.Framing.{header_of_fields, own_normal_form, fits_read, Number}
use Rattle.mp4_frame.proofs.Rows.{one_run_again, one_run_is}
use Rattle.mp4_flat.specs.Mfhd.{value_mfhd, reads_mfhd, fields_mfhd, WritableMfhd, bytes_mfhd, format_mfhd}
use Rattle.mp4_frame.specs.Reading.{TakesNone}
use Rattle.mp4_frame.proofs.NoMemory.{fields_take_none}
use Rattle.mp4_frame.specs.Bytes.{number}

pub laws_mfhd : IsBox reads_mfhd format_mfhd
unfolding bytes_mfhd reads_mfhd
laws_mfhd = record {
  header = λ v w. header_of_fields _ w refl;
  normal_form = λ v w. own_normal_form v refl w;
  read_back = λ v w rest start top. one_run_again 8 8 value_mfhd (fields_mfhd v) rest v w (lit≤ tt) refl;
  stable = λ bytes start long v are e. (
    refl,
    λ small. subst WritableMfhd (one_run_is 8 8 value_mfhd bytes v e)
        (lit< tt, (lit< tt, fits_read bytes are (Number 8 1 ∷ Number 9 3 ∷ Number 12 4 ∷ []))),
  );
}

-- reading an mfhd takes no memory
pub mfhd_takes_none : (bytes : List ℕ) (start size : ℕ) → TakesNone (reads_mfhd bytes start size)
unfolding reads_mfhd
mfhd_takes_none bytes start size = fields_take_none bytes 8 8 (value_mfhd (number bytes))
