-- The laws of a four-character code, and of entries up to the end of a box, which follow from those of an entry.
use Rattle.std.proofs.Common.{◌≡◌, ℕ, ◌+◌, ◌*◌, ◌-◌, ◌/◌, ◌%◌, ◌<◌, ◌^◌, true, eqb, List, ◌++◌, map, length, Ok}
use Rattle.std.proofs.Common.{refl, sym, ap, ◌∙◌, arith}
use Rattle.std.specs.List.{flat_map, All}
use Rattle.std.proofs.lemmas.Bool.{ltb-true}
use Rattle.std.proofs.lemmas.List.Elements.{All-from_recursion, recursion_from_All}
use Rattle.std.proofs.lemmas.Nat.{div-mul-add, mod-mul-add}
use Rattle.mp4_lemmas.proofs.Lists.{length_flat, map_back}
use Rattle.mp4_frame.specs.Bytes.{be_bytes}
use Rattle.mp4_frame.specs.FourCC.{IsFourCC}
use Rattle.mp4_frame.specs.Laws.{AreBytes}
use Rattle.mp4_frame.specs.Reading.{Reading, ◌>>=◌, done, memory}
use Rattle.mp4_frame.specs.Tables.{rows_at}
use Rattle.mp4_frame.specs.declared.four_cc.FourCC.{FourCC}
use Rattle.mp4_frame.proofs.Checks.{check_ok, is_value}
use Rattle.mp4_frame.proofs.TableLaws.{IsEntry, number_entry}
use Rattle.mp4_frame.proofs.Tables.{rows_at_back, rows_read, map_all, value_first}
use Rattle.mp4_declared.specs.MappedLaws.{mapped_laws}
use Rattle.mp4_declared.specs.OptionalShapes.{array_shape}
use Rattle.mp4_declared.specs.OptionalShapesLaws.{array_laws}
use Rattle.mp4_declared.specs.ShapeLaws.{IsShape}
use Rattle.mp4_declared.specs.ToEnd.{rows_to_end, reads_to_end, to_end_shape, code_in}
use Rattle.mp4_declared.specs.ToEnd.{code_shape, codes_shape, number_in}
use Rattle.mp4_declared.specs.ToEnd.{numbers_shape}

module _ {X : Type 0} (e : ℕ) (row_of : X → List ℕ) (entry_of : List ℕ → X) (FitsRow : X → Type 0)
    (entry : IsEntry row_of entry_of FitsRow e) where
  -- Entries that are written after p are read back.
  to_end_back : 0 < e → (p y : List ℕ) (xs : List X) (end : ℕ) → length p + e * length xs ≡ end → All FitsRow xs
      → (reads_to_end entry_of e (p ++ (flat_map row_of xs ++ y)) (length p) end).outcome ≡ Ok xs
  unfolding reads_to_end rows_to_end
  to_end_back some p y xs end ends each =
      let by = recursion_from_All FitsRow xs each in
      let left : end - length p ≡ length xs * e + 0 = omega (arith, ends) in
      let whole : eqb ((end - length p) % e) 0 ≡ true =
      ap (λ (k : ℕ). eqb (k % e) 0) left ∙ ap (λ (k : ℕ). eqb k 0) (mod-mul-add (length xs) e 0 some) in
      let count : (end - length p) / e ≡ length xs =
      ap (λ (k : ℕ). k / e) left ∙ div-mul-add (length xs) e 0 some in
      let rows = rows_at_back row_of e FitsRow entry.long p xs y (length p) by refl in
      let back = map_back row_of entry_of FitsRow entry.back xs by in
      rw (whole, count, rows, back) refl

  -- Entries that are read fit their rows.
  to_end_read : 0 < e → (bytes : List ℕ) (at end : ℕ) (xs : List X) → AreBytes bytes
      → (reads_to_end entry_of e bytes at end).outcome ≡ Ok xs → All FitsRow xs
  unfolding reads_to_end rows_to_end
  to_end_read some bytes at end xs are read =
      let n = (end - at) / e in
      let last : List (List ℕ) → Reading (List X) = λ rows. memory >>= λ _. done (map entry_of rows) in
      let p = value_first (rows_to_end e bytes at end) last xs read in
      let one = check_ok (eqb ((end - at) % e) 0) (λ _. rows_at bytes at e n) p.0 p.1 in
      let r = rows_read bytes at e n p.0 some are one.1 in
      let is : map entry_of p.0 ≡ xs = is_value (map entry_of p.0) xs p.2 in
      rw (← is)
      (All-from_recursion FitsRow (map entry_of p.0) (map_all e entry_of FitsRow entry.fits p.0 r.0))

  pub to_end_laws : IsShape (to_end_shape e row_of entry_of FitsRow)
  to_end_laws = record {
    long = λ c xs fits. length_flat row_of e FitsRow entry.long xs (recursion_from_All FitsRow xs fits);
    back = λ valid c xs x y end fits ends. to_end_back (ltb-true 0 e valid) x y xs end ends fits;
    stable = λ valid c bytes at end xs are read. to_end_read (ltb-true 0 e valid) bytes at end xs are read;
    front_first = λ c bytes at end le lt. absurd (omega arith);
    fixed_size = λ h. absurd cc;
    fixed_reads = λ h. absurd cc;
  }

code_entry : IsEntry (λ (code : FourCC). code.value) code_in IsFourCC 4
code_entry = record {
  long = λ code fits. fits.long;
  back = λ code fits. refl;
  fits = λ row is. record { long = is.long; are = is.are };
}

pub codes_laws : IsShape codes_shape
codes_laws = to_end_laws 4 (λ (code : FourCC). code.value) code_in IsFourCC code_entry

pub numbers_laws : IsShape numbers_shape
numbers_laws = to_end_laws 4 (λ n. be_bytes 4 n) number_in (λ n. n < 2 ^ 32) (number_entry 4)

pub code_laws : IsShape code_shape
code_laws = mapped_laws code_in (λ (code : FourCC). code.value) (λ x. refl) (λ v. refl) (array_shape 4) (array_laws 4)
