-- The laws of tx3g, whose bytes are a single run of fields.
use Rattle.std.proofs.Common.{◌≡◌, ℕ, List, [], ◌∷◌, length, refl, subst, arith, lit<, lit≤}
use Rattle.std.proofs.lemmas.Int.{to_z-of_z}
use Rattle.std.proofs.lemmas.List.Elements.{All-from_recursion, recursion_from_All}
use Rattle.std.specs.Int.{w8, w16, cast_signed}
use Rattle.std.specs.List.{AllByRecursion}
use Rattle.std.specs.Prelude.{ℤ, FitsSigned}
use Rattle.mp4_frame.specs.Bytes.{number}
use Rattle.mp4_frame.specs.Reading.{TakesNone}
use Rattle.mp4_frame.specs.Format.{IsBox}
use Rattle.mp4_frame.specs.Laws.{AreBytes}
use Rattle.mp4_frame.proofs.NoMemory.{fields_take_none}
use Rattle.mp4_frame.proofs.Rows.{one_run_again, one_run_is}
use Rattle.mp4_frame.proofs.Signed.{signed8, signed16}
use Rattle.mp4_frame.proofs.Framing.{own_normal_form, header_of_fields, fits_read, Number, Signed8, Signed16, Fitting}
use Rattle.mp4_entries.specs.ArrayLaws.{array_back, array_read}
use Rattle.mp4_entries.specs.Tx3g.{field_at, value_tx3g, reads_tx3g, fields_tx3g, IsBoxRecord, WritableTx3g, bytes_tx3g}
use Rattle.mp4_entries.specs.Tx3g.{format_tx3g}
use Rattle.mp4_entries.specs.declared.tx3g.Tx3gBox.{Tx3gBox}

-- the i-th of four signed numbers, as it is read back
abbrev passed : List ℤ → ℕ → ℤ
passed numbers i = cast_signed w16 (field_at numbers i).1

box_back : (numbers : List ℤ) → length numbers ≡ 4 → AllByRecursion (FitsSigned w16) numbers
    → passed numbers 0 ∷ passed numbers 1 ∷ passed numbers 2 ∷ passed numbers 3 ∷ [] ≡ numbers
box_back (a ∷ b ∷ c ∷ d ∷ []) four (fa, (fb, (fc, (fd, none)))) =
    λ i. to_z-of_z w16 a fa i ∷ to_z-of_z w16 b fb i ∷ to_z-of_z w16 c fc i ∷ to_z-of_z w16 d fd i ∷ []
box_back [] four all = absurd (omega (arith, four))
box_back (a ∷ []) four all = absurd (omega (arith, four))
box_back (a ∷ b ∷ []) four all = absurd (omega (arith, four))
box_back (a ∷ b ∷ c ∷ []) four all = absurd (omega (arith, four))
box_back (a ∷ b ∷ c ∷ d ∷ e ∷ rest) four all = absurd (omega (arith, four))

box_read : (bytes : List ℕ) → AreBytes bytes → IsBoxRecord (value_tx3g (number bytes)).box_record
box_read bytes are =
    let z = λ (o : ℕ). signed16 bytes o are in
    let numbers = (value_tx3g (number bytes)).box_record in
    record {
      four = refl;
      signed = All-from_recursion (FitsSigned w16) numbers (z 26, (z 28, (z 30, (z 32, tt))));
      fit = fits_read bytes are (Signed16 26 ∷ Signed16 28 ∷ Signed16 30 ∷ Signed16 32 ∷ []);
    }

pub laws_tx3g : IsBox reads_tx3g format_tx3g
unfolding bytes_tx3g reads_tx3g
laws_tx3g = record {
  header = λ v w. header_of_fields _ w.fit refl;
  normal_form = λ v w. own_normal_form v refl w;
  read_back = λ v w rest start top.
      one_run_again 8 38 value_tx3g (fields_tx3g v) rest v w.fit (lit≤ tt)
      (λ i. record v {
        horizontal_justification = to_z-of_z w8 v.horizontal_justification w.horizontal i;
        vertical_justification = to_z-of_z w8 v.vertical_justification w.vertical i;
        box_record =
            box_back v.box_record w.corners.four (recursion_from_All (FitsSigned w16) v.box_record w.corners.signed) i;
        style_record = array_back 12 v.style_record w.style.long w.style.bytes i;
      });
  stable = λ bytes start long v are e.
      let can : WritableTx3g (value_tx3g (number bytes)) = record {
        fit = (
          lit< tt,
          (
            lit< tt,
            fits_read bytes are (Fitting 6 0 (lit< tt) ∷ Number 14 2 ∷ Number 16 4 ∷ Signed8 20 ∷ Signed8 21
                ∷ Number 22 1 ∷ Number 23 1 ∷ Number 24 1 ∷ Number 25 1 ∷ Signed16 26 ∷ Signed16 28 ∷ Signed16 30
                ∷ Signed16 32 ∷ Fitting 12 _ (array_read bytes 34 12 are).small ∷ []),
          ),
        );
        horizontal = signed8 bytes 20 are;
        vertical = signed8 bytes 21 are;
        corners = box_read bytes are;
        style = array_read bytes 34 12 are;
      } in
      (refl, λ _. subst WritableTx3g (one_run_is 8 38 value_tx3g bytes v e) can);
}

-- Reading it takes no memory.
pub tx3g_takes_none : (bytes : List ℕ) (start size : ℕ) → TakesNone (reads_tx3g bytes start size)
unfolding reads_tx3g
tx3g_takes_none bytes start size = fields_take_none bytes 8 38 (value_tx3g (number bytes))
