-- The laws of hvcC, whose bytes are a single run of fields.
use Rattle.std.proofs.Common.{ℕ, List, [], ◌∷◌, refl, subst, lit<, lit≤}
use Rattle.mp4_frame.specs.Bytes.{number}
use Rattle.mp4_frame.specs.Reading.{TakesNone}
use Rattle.mp4_frame.specs.Format.{IsBox}
use Rattle.mp4_frame.proofs.NoMemory.{fields_take_none}
use Rattle.mp4_frame.proofs.Rows.{one_run_again, one_run_is}
use Rattle.mp4_frame.proofs.Framing.{own_normal_form, header_of_fields, fits_read, Number}
use Rattle.mp4_entries.specs.Hvcc.{value_hvcc, reads_hvcc, fields_hvcc, WritableHvcc, bytes_hvcc, format_hvcc}

pub laws_hvcc : IsBox reads_hvcc format_hvcc
unfolding bytes_hvcc reads_hvcc
laws_hvcc = record {
  header = λ v w. header_of_fields _ w refl;
  normal_form = λ v w. own_normal_form v refl w;
  read_back = λ v w rest start top. one_run_again 8 1 value_hvcc (fields_hvcc v) rest v w (lit≤ tt) refl;
  stable = λ bytes start long v are e. (
    refl,
    λ _. subst WritableHvcc (one_run_is 8 1 value_hvcc bytes v e)
        (lit< tt, (lit< tt, fits_read bytes are (Number 8 1 ∷ []))),
  );
}

-- Reading it takes no memory.
pub hvcc_takes_none : (bytes : List ℕ) (start size : ℕ) → TakesNone (reads_hvcc bytes start size)
unfolding reads_hvcc
hvcc_takes_none bytes start size = fields_take_none bytes 8 1 (value_hvcc (number bytes))
