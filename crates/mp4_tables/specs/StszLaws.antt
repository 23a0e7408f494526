-- The laws of stsz follow from those of its sizes.
use Rattle.std.proofs.Common.{◌≡◌, ℕ, ◌+◌, ◌*◌, ◌<◌, ◌^◌, Bool, true, false, eqb, cond, List, [], ◌∷◌, ◌++◌, map, Ok}
use Rattle.std.proofs.Common.{length, refl, sym, ap, subst, ◌∙◌, append_assoc, arith, lit<, lit≤}
use Rattle.std.specs.List.{flat_map, All, AllByRecursion}
use Rattle.std.proofs.lemmas.List.{length-map}
use Rattle.std.proofs.lemmas.List.Elements.{All-from_recursion, recursion_from_All}
use Rattle.mp4_lemmas.proofs.Lists.{front_and_rest, length_flat, map_back}
use Rattle.mp4_frame.specs.Format.{IsBox, IsNormalForm}
use Rattle.mp4_frame.specs.Bytes.{number, be_bytes, bytes_of_fields, FieldsFit}
use Rattle.mp4_frame.specs.Laws.{AreBytes, IsWhole}
use Rattle.mp4_frame.specs.Reading.{◌>>=◌, memory, done}
use Rattle.mp4_frame.specs.Tables.{rows}
use Rattle.mp4_frame.specs.declared.codes.TheConstants as codes
use Rattle.mp4_frame.proofs.Framing.{own_normal_form, header_in_front, fits_read, Number}
use Rattle.mp4_frame.proofs.Fields.{found, length-fields, numbers-fields, expect_bytes-fields}
use Rattle.mp4_frame.proofs.Checks.{expect_bytes_ok, is_value}
use Rattle.mp4_frame.proofs.NormalForms.{number_again, rows_there}
use Rattle.mp4_frame.proofs.NumberBytes.{fields_at, fields_there}
use Rattle.mp4_frame.proofs.Tables.{map_all, value_first, rows_are, length-rows}
use Rattle.mp4_frame.proofs.TableLaws.{number_entry}
use Rattle.mp4_tables.specs.Rows.{rows_within}
use Rattle.mp4_tables.specs.RowsLaws.{rows_within_back, rows_within_read}
use Rattle.mp4_tables.specs.Stsz.{reads_sizes, sizes_if_listed, value_stsz, reads_stsz, size_stsz, fields_stsz}
use Rattle.mp4_tables.specs.Stsz.{WritableStsz, bytes_stsz, format_stsz, count_of_sizes}
use Rattle.mp4_tables.specs.declared.stsz.StszBox.{StszBox}

-- sizes that were written after p are read back
sizes_back : (p y : List ℕ) (sizes : List ℕ) (size : ℕ) → length p ≡ 20 → size ≡ 20 + 4 * length sizes
    → All (λ s. s < 2 ^ 32) sizes
    → (reads_sizes (p ++ (flat_map (λ s. be_bytes 4 s) sizes ++ y)) size (length sizes)).outcome ≡ Ok sizes
unfolding reads_sizes
sizes_back p y sizes size at is each =
    let by = recursion_from_All (λ s. s < 2 ^ 32) sizes each in
    let rows = rows_within_back (λ s. be_bytes 4 s) 4 (λ s. s < 2 ^ 32) (number_entry 4).long p sizes y 20 size
    by at is in
    let es : map (λ entry. number entry 0 4) (map (λ s. be_bytes 4 s) sizes) ≡ sizes =
    map_back (λ s. be_bytes 4 s) (λ entry. number entry 0 4) (λ s. s < 2 ^ 32) (number_entry 4).back sizes by in
    rw (rows, es) refl

no_sizes : (sizes : List ℕ) → length sizes ≡ 0 → [] ≡ sizes
no_sizes [] h = refl
no_sizes (s ∷ sizes) h = absurd (omega arith)

listed_back : (p y sizes : List ℕ) (size sample_size count : ℕ) → length p ≡ 20 → size ≡ 20 + 4 * length sizes
    → All (λ s. s < 2 ^ 32) sizes → length sizes ≡ cond (eqb sample_size 0) count 0
    → (sizes_if_listed (p ++ (flat_map (λ s. be_bytes 4 s) sizes ++ y)) size sample_size count).outcome ≡ Ok sizes
listed_back p y sizes size sample_size count at is each sync = by (eqb sample_size 0) sync
  where
    by : (b : Bool) → length sizes ≡ cond b count 0
        → (cond b (reads_sizes (p ++ (flat_map (λ s. be_bytes 4 s) sizes ++ y)) size count) (done [])).outcome
        ≡ Ok sizes
    by true h = rw (← h) (sizes_back p y sizes size at is each)
    by false h = ap (λ (xs : List ℕ). Ok xs) (no_sizes sizes h)

-- sizes that were read fit 32 bits, and the list has the number of sizes that it must have
sizes_read : (bytes : List ℕ) (size sample_size count : ℕ) (sizes : List ℕ) → AreBytes bytes
    → (sizes_if_listed bytes size sample_size count).outcome ≡ Ok sizes
    → AllByRecursion (λ s. s < 2 ^ 32) sizes × (length sizes ≡ cond (eqb sample_size 0) count 0)
unfolding reads_sizes
sizes_read bytes size sample_size count sizes are h = by (eqb sample_size 0) h
  where
    by : (b : Bool) → (cond b (reads_sizes bytes size count) (done [])).outcome ≡ Ok sizes
        → AllByRecursion (λ s. s < 2 ^ 32) sizes × (length sizes ≡ cond b count 0)
    by true e =
        let p = value_first (rows_within bytes size 20 4 count)
        (λ rows. memory >>= λ _. done (map (λ entry. number entry 0 4) rows)) sizes e in
        let r = rows_within_read bytes size 20 4 count p.0 (lit< tt) are p.1 in
        let is : map (λ entry. number entry 0 4) p.0 ≡ sizes = is_value _ sizes p.2 in
        rw (← is) (
          map_all 4 (λ entry. number entry 0 4) (λ s. s < 2 ^ 32) (number_entry 4).fits p.0 r.0,
          length-map p.0 (λ entry. number entry 0 4) ∙ r.1,
        )
    by false e = let is : [] ≡ sizes = is_value [] sizes e in rw (← is) (tt, refl)

pub laws_stsz : IsBox reads_stsz format_stsz
unfolding bytes_stsz reads_stsz
laws_stsz = record {
  header = λ v w.
      let sizes = flat_map (λ size. be_bytes 4 size) v.sample_sizes in
      let long = length_flat (λ size. be_bytes 4 size) 4 (λ size. size < 2 ^ 32) (number_entry 4).long v.sample_sizes
      (recursion_from_All _ v.sample_sizes w.each) in
      header_in_front _ sizes w.fit (omega (arith, long));
  normal_form = λ v w. own_normal_form v refl w;
  read_back = λ v w rest start top.
      let cs = fields_stsz v in
      let z = flat_map (λ size. be_bytes 4 size) v.sample_sizes in
      let B = bytes_of_fields cs ++ (z ++ rest) in
      let numbers : number B ≡ found cs (z ++ rest) = numbers-fields cs (z ++ rest) w.fit in
      let n8 : number B 8 1 ≡ v.version = ap (λ (at : ℕ → ℕ → ℕ). at 8 1) numbers in
      let n9 : number B 9 3 ≡ v.flags = ap (λ (at : ℕ → ℕ → ℕ). at 9 3) numbers in
      let n12 : number B 12 4 ≡ v.sample_size = ap (λ (at : ℕ → ℕ → ℕ). at 12 4) numbers in
      let n16 : number B 16 4 ≡ v.sample_count = ap (λ (at : ℕ → ℕ → ℕ). at 16 4) numbers in
      let first = expect_bytes-fields cs (z ++ rest) 8 12 (lit≤ tt) in
      let sizes : (sizes_if_listed B (size_stsz v) v.sample_size v.sample_count).outcome ≡ Ok v.sample_sizes =
      listed_back (bytes_of_fields cs) rest v.sample_sizes (size_stsz v) v.sample_size v.sample_count
      (length-fields cs) refl w.each w.in_sync in
      let whole : (reads_stsz B start (size_stsz v)).outcome ≡ Ok v = rw (first, n12, n16, sizes, n8, n9) refl in
      ap (λ (l : List ℕ). (reads_stsz l start (size_stsz v)).outcome) (append_assoc (bytes_of_fields cs) z rest)
      ∙ whole;
  stable = λ bytes start long v are read.
      let one = expect_bytes_ok bytes 8 12
      (λ _. sizes_if_listed bytes long (number bytes 12 4) (number bytes 16 4) >>= λ sizes.
      done (value_stsz (number bytes) sizes)) v read in
      let p = value_first (sizes_if_listed bytes long (number bytes 12 4) (number bytes 16 4))
      (λ sizes. done (value_stsz (number bytes) sizes)) v one in
      let made = value_stsz (number bytes) p.0 in
      let is : made ≡ v = is_value made v p.2 in
      let r = sizes_read bytes long (number bytes 12 4) (number bytes 16 4) p.0 are p.1 in
      let can : size_stsz made < 2 ^ 32 → WritableStsz made = λ small. record {
        fit = (small, (lit< tt, fits_read bytes are (Number 8 1 ∷ Number 9 3 ∷ Number 12 4 ∷ Number 16 4 ∷ [])));
        each = All-from_recursion (λ s. s < 2 ^ 32) p.0 r.0;
        in_sync = r.1;
      } in
      (refl, subst (λ (w : StszBox). size_stsz w < 2 ^ 32 → WritableStsz w) is can);
}

-- a whole stsz with the number of sizes that it must have is in normal form
pub normal_stsz : (bytes : List ℕ) → IsWhole codes.STSZ bytes
    → length bytes ≡ 20 + 4 * count_of_sizes (number bytes 12 4) (number bytes 16 4) → IsNormalForm format_stsz bytes
unfolding bytes_stsz
normal_stsz bytes whole long =
    let are = whole.are in
    let n = count_of_sizes (number bytes 12 4) (number bytes 16 4) in
    let found = rows bytes 20 4 n in
    let sizes = map (λ entry. number entry 0 4) found in
    let v = value_stsz (number bytes) sizes in
    let all : length bytes ≡ 20 + n * 4 = omega (arith, long) in
    let many : length sizes ≡ n = length-map found (λ entry. number entry 0 4) ∙ length-rows bytes 20 4 n in
    let size : size_stsz v ≡ number bytes 0 4 = ap (λ (k : ℕ). 20 + 4 * k) many ∙ sym long ∙ sym whole.size_first in
    let ws : List ℕ = 4 ∷ 4 ∷ 1 ∷ 3 ∷ 4 ∷ 4 ∷ [] in
    let same : fields_stsz v ≡ fields_at bytes 0 ws = rw (size, ← whole.code_next) refl in
    let fit : FieldsFit (fields_at bytes 0 ws) = fits_read bytes are
    (Number 0 4 ∷ Number 4 4 ∷ Number 8 1 ∷ Number 9 3 ∷ Number 12 4 ∷ Number 16 4 ∷ []) in
    let can : WritableStsz v = record {
      fit = subst FieldsFit (sym same) fit;
      each = All-from_recursion (λ s. s < 2 ^ 32) sizes
          (map_all 4 (λ entry. number entry 0 4) (λ s. s < 2 ^ 32) (number_entry 4).fits found
          (rows_are bytes 20 4 n are (λ _. omega (arith, all))));
      in_sync = many;
    } in (
      v,
      can,
      front_and_rest bytes (bytes_of_fields (fields_stsz v)) (flat_map (λ size. be_bytes 4 size) sizes) 20 (n * 4)
          (ap bytes_of_fields same ∙ fields_there bytes are 0 ws (omega (arith, all)))
          (rows_there (λ size. be_bytes 4 size) (λ entry. number entry 0 4) 4 (number_again 4) bytes 20 n are
          (omega (arith, all))) all,
    )
