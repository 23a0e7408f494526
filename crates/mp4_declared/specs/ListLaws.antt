-- The laws of a counted list follow from those of its entries.
use Rattle.std.proofs.Common.{◌≡◌, ℕ, ◌+◌, ◌*◌, ◌-◌, ◌<◌, ◌≤◌, ◌^◌, true, leb, List, ◌++◌, map, length, Ok}
use Rattle.std.proofs.Common.{refl, ap, ◌∙◌, append_assoc, length-append, arith}
use Rattle.std.specs.List.{flat_map, All}
use Rattle.std.proofs.lemmas.Bool.{le-leb, ltb-true}
use Rattle.std.proofs.lemmas.List.{length-map}
use Rattle.std.proofs.lemmas.List.Elements.{All-from_recursion, recursion_from_All}
use Rattle.mp4_lemmas.proofs.Lists.{length_flat, map_back}
use Rattle.mp4_frame.specs.Bytes.{number, be_bytes}
use Rattle.mp4_frame.specs.Laws.{AreBytes}
use Rattle.mp4_frame.specs.Reading.{Reading, ◌>>=◌, done, memory}
use Rattle.mp4_frame.specs.Tables.{rows_at}
use Rattle.mp4_frame.proofs.Checks.{expect_bytes_present, expect_bytes_ok, check_ok, is_value}
use Rattle.mp4_frame.proofs.Fields.{length-be_bytes, number-below}
use Rattle.mp4_frame.proofs.TableLaws.{IsEntry}
use Rattle.mp4_frame.proofs.Tables.{rows_at_back, rows_read, map_all, value_first}
use Rattle.mp4_declared.specs.declared.context.Context.{Context}
use Rattle.mp4_declared.specs.Shape.{rows_within, reads_entries, list_shape}
use Rattle.mp4_declared.specs.ShapeLaws.{IsShape, expect_bytes_absent, put_room, number_put}

module _ {X : Type 0} (width e : ℕ) (row_of : X → List ℕ) (entry_of : List ℕ → X) (FitsRow : X → Type 0)
    (entry : IsEntry row_of entry_of FitsRow e) where
  -- Entries that are written after p are read back.
  entries_back : (p y : List ℕ) (xs : List X) (end o : ℕ) → length p ≡ o → o + e * length xs ≤ end → All FitsRow xs
      → (reads_entries entry_of e (p ++ (flat_map row_of xs ++ y)) end o (length xs)).outcome ≡ Ok xs
  unfolding reads_entries rows_within
  entries_back p y xs end o at room each =
      let by = recursion_from_All FitsRow xs each in
      let enough : leb (length xs * e) (end - o) ≡ true = le-leb (length xs * e) (end - o) (omega arith) in
      let rows = rows_at_back row_of e FitsRow entry.long p xs y o by at in
      let back = map_back row_of entry_of FitsRow entry.back xs by in
      rw (enough, rows, back) refl

  -- Entries that are read fit their rows, and there are as many as the count says.
  entries_read : 0 < e → (bytes : List ℕ) (end o n : ℕ) (xs : List X) → AreBytes bytes
      → (reads_entries entry_of e bytes end o n).outcome ≡ Ok xs → All FitsRow xs × (length xs ≡ n)
  unfolding reads_entries rows_within
  entries_read some bytes end o n xs are read =
      let last : List (List ℕ) → Reading (List X) = λ rows. memory >>= λ _. done (map entry_of rows) in
      let p = value_first (rows_within bytes end o e n) last xs read in
      let one = check_ok (leb (n * e) (end - o)) (λ _. rows_at bytes o e n) p.0 p.1 in
      let r = rows_read bytes o e n p.0 some are one.1 in
      let is : map entry_of p.0 ≡ xs = is_value (map entry_of p.0) xs p.2 in
      rw (← is) (
        All-from_recursion FitsRow (map entry_of p.0) (map_all e entry_of FitsRow entry.fits p.0 r.0),
        length-map p.0 entry_of ∙ r.1,
      )

  list_long : (xs : List X) → All FitsRow xs
      → length (be_bytes width (length xs) ++ flat_map row_of xs) ≡ width + e * length xs
  list_long xs each =
      let rows = length_flat row_of e FitsRow entry.long xs (recursion_from_All FitsRow xs each) in
      let count = length-be_bytes width (length xs) in
      omega (arith, length-append (be_bytes width (length xs)) (flat_map row_of xs), rows, count)

  list_back : (xs : List X) (x y : List ℕ) (end : ℕ) → (length xs < 256 ^ width) × All FitsRow xs
      → length x + (width + e * length xs) ≤ end → (c : Context)
      → ((list_shape width e row_of entry_of FitsRow).reads c
      (x ++ ((be_bytes width (length xs) ++ flat_map row_of xs) ++ y)) (length x) end).outcome ≡ Ok xs
  list_back xs x y end fits room c =
      let n = length xs in
      let count = be_bytes width n in
      let rows = flat_map row_of xs in
      let o = length x in
      let bytes = x ++ ((count ++ rows) ++ y) in
      let by_count : bytes ≡ x ++ (count ++ (rows ++ y)) = simp append_assoc in
      let by_rows : bytes ≡ (x ++ count) ++ (rows ++ y) = simp append_assoc in
      let long = length-be_bytes width n in
      let at : length (x ++ count) ≡ o + width = omega (arith, length-append x count, long) in
      let here : o + width ≤ length bytes =
      omega (arith, ap length by_count, put_room x count (rows ++ y) width long) in
      let is : number bytes o width ≡ n = ap (λ (bs : List ℕ). number bs o width) by_count
      ∙ number_put x (rows ++ y) width n fits.0 in
      let back : (reads_entries entry_of e bytes end (o + width) n).outcome ≡ Ok xs =
      ap (λ (bs : List ℕ). (reads_entries entry_of e bs end (o + width) n).outcome) by_rows
      ∙ entries_back (x ++ count) y xs end (o + width) at (omega (arith, room)) fits.1 in
      rw (expect_bytes_present bytes o width here, is) back

  pub list_laws : IsShape (list_shape width e row_of entry_of FitsRow)
  list_laws = record {
    long = λ c xs fits. list_long xs fits.1;
    back = λ _ c xs x y end fits ends. list_back xs x y end fits ends c;
    stable = λ valid c bytes at end xs are read.
        let n = number bytes at width in
        let one = expect_bytes_ok bytes at width (λ _. reads_entries entry_of e bytes end (at + width) n) xs read in
        let r = entries_read (ltb-true 0 e valid) bytes end (at + width) n xs are one in
        let below = number-below bytes at width are in
        (omega (arith, r.1, below), r.0);
    front_first = λ c bytes at end le lt. rw (expect_bytes_absent bytes at width le lt) refl;
    fixed_size = λ h. absurd cc;
    fixed_reads = λ h. absurd cc;
  }

-- a row of e bytes as an entry
pub row_entry : (e : ℕ) → IsEntry (λ row. row) (λ row. row) (λ row. length row ≡ e) e
row_entry e = record {
  long = λ row fits. fits;
  back = λ row fits. refl;
  fits = λ row is. is.long;
}
