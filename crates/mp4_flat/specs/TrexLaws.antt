-- The laws of trex, whose fields have fixed offsets.
use Rattle.std.proofs.Common.{[], ◌∷◌, refl, subst, lit<, lit≤, ℕ, List}
use Rattle.mp4_frame.specs.Format.{IsBox}
use Rattle.mp4_frame.proofs.Rows.{one_run_again, one_run_is}
use Rattle.mp4_frame.proofs.Framing.{own_normal_form, header_of_fields, fits_read, Number}
use Rattle.mp4_flat.specs.Trex.{value_trex, reads_trex, fields_trex, WritableTrex, bytes_trex, format_trex}
use Rattle.mp4_frame.specs.Reading.{TakesNone}
use Rattle.mp4_frame.proofs.NoMemory.{fields_take_none}
use Rattle.mp4_frame.specs.Bytes.{number}

pub laws_trex : IsBox reads_trex format_trex
unfolding bytes_trex reads_trex
laws_trex = record {
  header = λ v w. header_of_fields _ w refl;
  normal_form = λ v w. own_normal_form v refl w;
  read_back = λ v w rest start top. one_run_again 8 24 value_trex (fields_trex v) rest v w (lit≤ tt) refl;
  stable = λ bytes start long v are e. (
    refl,
    λ _. subst WritableTrex (one_run_is 8 24 value_trex bytes v e) (
      lit< tt,
      (
        lit< tt,
        fits_read bytes are
            (Number 8 1 ∷ Number 9 3 ∷ Number 12 4 ∷ Number 16 4 ∷ Number 20 4 ∷ Number 24 4 ∷ Number 28 4 ∷ []),
      ),
    ),
  );
}

-- reading a trex takes no memory
pub trex_takes_none : (bytes : List ℕ) (start size : ℕ) → TakesNone (reads_trex bytes start size)
unfolding reads_trex
trex_takes_none bytes start size = fields_take_none bytes 8 24 (value_trex (number bytes))
