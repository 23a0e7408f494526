-- The laws of vmhd, whose fields have fixed offsets.
use Rattle.std.proofs.Common.{[], ◌∷◌, refl, subst, lit<, lit≤, ℕ, List}
use Rattle.mp4_frame.specs.Format.{IsBox}
use Rattle.mp4_frame.proofs.Rows.{one_run_again, one_run_is}
use Rattle.mp4_frame.proofs.Framing.{own_normal_form, header_of_fields, fits_read, Number}
use Rattle.mp4_flat.specs.Vmhd.{value_vmhd, reads_vmhd, fields_vmhd, WritableVmhd, bytes_vmhd, format_vmhd}
use Rattle.mp4_frame.specs.Reading.{TakesNone}
use Rattle.mp4_frame.proofs.NoMemory.{fields_take_none}
use Rattle.mp4_frame.specs.Bytes.{number}

pub laws_vmhd : IsBox reads_vmhd format_vmhd
unfolding bytes_vmhd reads_vmhd
laws_vmhd = record {
  header = λ v w. header_of_fields _ w refl;
  normal_form = λ v w. own_normal_form v refl w;
  read_back = λ v w rest start top. one_run_again 8 12 value_vmhd (fields_vmhd v) rest v w (lit≤ tt) refl;
  stable = λ bytes start long v are e. (
    refl,
    λ _. subst WritableVmhd (one_run_is 8 12 value_vmhd bytes v e) (
      lit< tt,
      (
        lit< tt,
        fits_read bytes are
            (Number 8 1 ∷ Number 9 3 ∷ Number 12 2 ∷ Number 14 2 ∷ Number 16 2 ∷ Number 18 2 ∷ []),
      ),
    ),
  );
}

-- reading a vmhd takes no memory
pub vmhd_takes_none : (bytes : List ℕ) (start size : ℕ) → TakesNone (reads_vmhd bytes start size)
unfolding reads_vmhd
vmhd_takes_none bytes start size = fields_take_none bytes 8 12 (value_vmhd (number bytes))
