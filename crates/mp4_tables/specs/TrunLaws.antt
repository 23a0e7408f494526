-- The laws of trun follow from those of optional fields and of rows.
use Rattle.std.proofs.Common.{◌≡◌, ℕ, zero, suc, ◌+◌, ◌*◌, ◌-◌, ◌<◌, ◌≤◌, ◌^◌, Bool, true, false, List, [], ◌∷◌, ◌++◌}
use Rattle.std.proofs.Common.{map, length, Ok, Option, Some, None, refl, sym, ap, subst, ◌∙◌, append_assoc, arith}
use Rattle.std.proofs.Common.{length-append, lit<}
use Rattle.std.specs.Prelude.{ℤ, slice_get}
use Rattle.std.specs.Int.{w32}
use Rattle.std.specs.List.{range_with_len, AllByRecursion}
use Rattle.std.proofs.lemmas.Int.{to_z-of_z}
use Rattle.std.proofs.lemmas.List.{append-nil, length-map}
use Rattle.std.proofs.lemmas.List.Elements.{All-from_recursion, All-get_or}
use Rattle.std.proofs.lemmas.List.FromFn.{length-range_with_len, fill_by_all}
use Rattle.std.proofs.lemmas.Option.{slice_get_past, slice_get-get_or, get_or_from_slice_get}
use Rattle.std.proofs.lemmas.Simd.{map-map}
use Rattle.mp4_lemmas.proofs.Lists.{length_flat}
use Rattle.mp4_frame.specs.Format.{IsBox}
use Rattle.mp4_frame.specs.Bytes.{number, bytes_of_fields}
use Rattle.mp4_frame.specs.Laws.{AreBytes, BeginsWithHeader}
use Rattle.mp4_frame.specs.Reading.{Reading, ◌>>=◌, expect_bytes, memory, done}
use Rattle.mp4_frame.specs.declared.box_type.BoxType.TheVariants as names
use Rattle.mp4_frame.proofs.Framing.{own_normal_form, header_in_front, fits_read, Number}
use Rattle.mp4_frame.proofs.Fields.{length-fields, number-fields, number-below}
use Rattle.mp4_frame.proofs.Signed.{below32, signed32}
use Rattle.mp4_frame.proofs.Checks.{expect_bytes_present, expect_bytes_ok, is_value}
use Rattle.mp4_frame.proofs.Tables.{IsRow, map_all, value_first}
use Rattle.mp4_tables.specs.Flagged.{is_set, width_if, number_if, optional, IsPresent}
use Rattle.mp4_tables.specs.FlaggedLaws.{length_optional, optional_back, number_is_present}
use Rattle.mp4_tables.specs.Rows.{rows_within}
use Rattle.mp4_tables.specs.RowsLaws.{rows_within_back, rows_within_read}
use Rattle.mp4_tables.specs.TrunRows.{row_flags, size_in_row, flags_in_row, cts_in_row, row_length}
use Rattle.mp4_tables.specs.TrunLists.{column_if, lists_of, reads_lists, IsListed}
use Rattle.mp4_tables.specs.Trun.{first_flags_at, rows_at, signed_bits, unsigned_bits, value_trun, reads_trun}
use Rattle.mp4_tables.specs.Trun.{size_trun, fields_trun, FitsOptional, ListedTrun, WritableTrun, row_trun, rows_trun}
use Rattle.mp4_tables.specs.Trun.{bytes_trun, format_trun}
use Rattle.mp4_tables.specs.declared.trun.TheConstants.TrunBox.{FLAG_DATA_OFFSET, FLAG_FIRST_SAMPLE_FLAGS}
use Rattle.mp4_tables.specs.declared.trun.TrunBox.{TrunBox}
use Rattle.mp4_tables.specs.declared.trun.lists.TrunLists.{TrunLists}

-- the i-th number of a list is present if and only if the flag of the list is set
item_is_present : (b : Bool) (count i : ℕ) (xs : List ℕ) → IsListed b count xs → i < count
    → IsPresent b 4 (slice_get xs i)
item_is_present true count i xs h lt =
    let here : i < length xs = omega (arith, h.long) in
    subst (λ (x : Option ℕ). IsPresent true 4 x) (sym (slice_get-get_or xs i 0 here))
    (refl, All-get_or (λ n. n < 2 ^ 32) xs i 0 here h.each)
item_is_present false count i xs h lt =
    let past : length xs ≤ i = omega (arith, h.long) in
    subst (λ (x : Option ℕ). IsPresent false 4 x) (sym (slice_get_past xs i past)) refl

pub length_row : (v : TrunBox) → ListedTrun v → (i : ℕ) → i < v.sample_count
    → length (row_trun v i) ≡ row_length (row_flags v.flags)
unfolding row_trun
length_row v w i lt =
    let a = optional 4 (slice_get v.sample_durations i) in
    let b = optional 4 (slice_get v.sample_sizes i) in
    let c = optional 4 (slice_get v.sample_flags i) in
    let d = optional 4 (slice_get v.sample_cts i) in
    let la = length_optional (row_flags v.flags).duration 4 (slice_get v.sample_durations i)
    (item_is_present _ _ i v.sample_durations w.durations lt) in
    let lb = length_optional (row_flags v.flags).size 4 (slice_get v.sample_sizes i)
    (item_is_present _ _ i v.sample_sizes w.sizes lt) in
    let lc = length_optional (row_flags v.flags).flags 4 (slice_get v.sample_flags i)
    (item_is_present _ _ i v.sample_flags w.flags lt) in
    let ld = length_optional (row_flags v.flags).cts 4 (slice_get v.sample_cts i)
    (item_is_present _ _ i v.sample_cts w.cts lt) in
    omega (arith, la, lb, lc, ld, length-append (a ++ b ++ c) d, length-append (a ++ b) c, length-append a b)

all_range : (a n count : ℕ) → a + n ≤ count → AllByRecursion (λ i. i < count) (range_with_len a n)
all_range a zero count le = tt
all_range a (suc n) count le = (omega arith, all_range (a + 1) n count (omega arith))

pub length_rows : (v : TrunBox) → ListedTrun v → (n : ℕ) → n ≤ v.sample_count
    → length (rows_trun v n) ≡ row_length (row_flags v.flags) * n
length_rows v w n le =
    length_flat (row_trun v) (row_length (row_flags v.flags)) (λ i. i < v.sample_count) (length_row v w)
    (range_with_len 0 n) (all_range 0 n v.sample_count (omega arith))
    ∙ ap (λ (k : ℕ). row_length (row_flags v.flags) * k) (length-range_with_len 0 n)

-- a list is read back, if the number of each row is read back
column_back : (v : TrunBox) (b : Bool) (o : ℕ) (xs : List ℕ) → IsListed b v.sample_count xs
    → ((i : ℕ) → i < v.sample_count → number_if (number (row_trun v i)) b o 4 ≡ slice_get xs i)
    → column_if b o (map (row_trun v) (range_with_len 0 v.sample_count)) ≡ xs
unfolding column_if number_if
column_back v true o xs h each =
    map-map (λ (row : List ℕ). number row o 4) (row_trun v) (range_with_len 0 v.sample_count)
    ∙ sym (fill_by_all (λ i. number (row_trun v i) o 4) xs v.sample_count 0 h.long
    (λ k lt. get_or_from_slice_get xs k (number (row_trun v k) o 4) 0 (sym (each k lt))))
column_back v false o [] h each = refl
column_back v false o (x ∷ xs) h each = absurd (omega (arith, h.long))

module _ (v : TrunBox) (w : ListedTrun v) where
  pub lists_back : lists_of (row_flags v.flags) (map (row_trun v) (range_with_len 0 v.sample_count))
      ≡ record { durations = v.sample_durations; sizes = v.sample_sizes; flags = v.sample_flags; cts = v.sample_cts }
  unfolding row_trun
  lists_back = rw (
    column_back v (row_flags v.flags).duration 0 v.sample_durations w.durations (λ i lt. durations i lt),
    column_back v (row_flags v.flags).size (size_in_row (row_flags v.flags)) v.sample_sizes w.sizes
        (λ i lt. sizes i lt),
    column_back v (row_flags v.flags).flags (flags_in_row (row_flags v.flags)) v.sample_flags w.flags
        (λ i lt. flags i lt),
    column_back v (row_flags v.flags).cts (cts_in_row (row_flags v.flags)) v.sample_cts w.cts (λ i lt. cts i lt),
  ) refl
    where
      a : ℕ → List ℕ
      a i = optional 4 (slice_get v.sample_durations i)

      b : ℕ → List ℕ
      b i = optional 4 (slice_get v.sample_sizes i)

      c : ℕ → List ℕ
      c i = optional 4 (slice_get v.sample_flags i)

      d : ℕ → List ℕ
      d i = optional 4 (slice_get v.sample_cts i)

      wa : (i : ℕ) → i < v.sample_count → IsPresent (row_flags v.flags).duration 4 (slice_get v.sample_durations i)
      wa i lt = item_is_present (row_flags v.flags).duration v.sample_count i v.sample_durations w.durations lt

      wb : (i : ℕ) → i < v.sample_count → IsPresent (row_flags v.flags).size 4 (slice_get v.sample_sizes i)
      wb i lt = item_is_present (row_flags v.flags).size v.sample_count i v.sample_sizes w.sizes lt

      wc : (i : ℕ) → i < v.sample_count → IsPresent (row_flags v.flags).flags 4 (slice_get v.sample_flags i)
      wc i lt = item_is_present (row_flags v.flags).flags v.sample_count i v.sample_flags w.flags lt

      wd : (i : ℕ) → i < v.sample_count → IsPresent (row_flags v.flags).cts 4 (slice_get v.sample_cts i)
      wd i lt = item_is_present (row_flags v.flags).cts v.sample_count i v.sample_cts w.cts lt

      pa : (i : ℕ) → i < v.sample_count → length (a i) ≡ size_in_row (row_flags v.flags)
      pa i lt = length_optional (row_flags v.flags).duration 4 (slice_get v.sample_durations i) (wa i lt)

      pb : (i : ℕ) → i < v.sample_count → length (a i ++ b i) ≡ flags_in_row (row_flags v.flags)
      pb i lt = omega (
        arith,
        pa i lt,
        length_optional (row_flags v.flags).size 4 (slice_get v.sample_sizes i) (wb i lt),
        length-append (a i) (b i),
      )

      pc : (i : ℕ) → i < v.sample_count → length (a i ++ b i ++ c i) ≡ cts_in_row (row_flags v.flags)
      pc i lt = omega (
        arith,
        pb i lt,
        length_optional (row_flags v.flags).flags 4 (slice_get v.sample_flags i) (wc i lt),
        length-append (a i ++ b i) (c i),
      )

      durations : (i : ℕ) → i < v.sample_count
          → number_if (number (a i ++ b i ++ c i ++ d i)) (row_flags v.flags).duration 0 4
          ≡ slice_get v.sample_durations i
      durations i lt = optional_back (a i ++ b i ++ c i ++ d i) [] (slice_get v.sample_durations i)
          (b i ++ (c i ++ d i)) (row_flags v.flags).duration 0 4 (simp append_assoc) refl (wa i lt)

      sizes : (i : ℕ) → i < v.sample_count
          → number_if (number (a i ++ b i ++ c i ++ d i)) (row_flags v.flags).size (size_in_row (row_flags v.flags)) 4
          ≡ slice_get v.sample_sizes i
      sizes i lt = optional_back (a i ++ b i ++ c i ++ d i) (a i) (slice_get v.sample_sizes i) (c i ++ d i)
          (row_flags v.flags).size (size_in_row (row_flags v.flags)) 4 (simp append_assoc) (pa i lt) (wb i lt)

      flags : (i : ℕ) → i < v.sample_count
          → number_if (number (a i ++ b i ++ c i ++ d i)) (row_flags v.flags).flags (flags_in_row (row_flags v.flags)) 4
          ≡ slice_get v.sample_flags i
      flags i lt = optional_back (a i ++ b i ++ c i ++ d i) (a i ++ b i) (slice_get v.sample_flags i) (d i)
          (row_flags v.flags).flags (flags_in_row (row_flags v.flags)) 4 (append_assoc (a i ++ b i) (c i) (d i))
          (pb i lt) (wc i lt)

      cts : (i : ℕ) → i < v.sample_count
          → number_if (number (a i ++ b i ++ c i ++ d i)) (row_flags v.flags).cts (cts_in_row (row_flags v.flags)) 4
          ≡ slice_get v.sample_cts i
      cts i lt = optional_back (a i ++ b i ++ c i ++ d i) (a i ++ b i ++ c i) (slice_get v.sample_cts i) []
          (row_flags v.flags).cts (cts_in_row (row_flags v.flags)) 4
          (ap (λ (l : List ℕ). (a i ++ b i ++ c i) ++ l) (sym (append-nil (d i)))) (pc i lt) (wd i lt)

offset_back : (x : Option ℤ) → FitsOptional x → signed_bits (unsigned_bits x) ≡ x
offset_back None h = refl
offset_back (Some z) h = ap (λ (y : ℤ). Some y) (to_z-of_z w32 z h)

full : (b : Bool) → b ≡ true → width_if b 4 ≡ 4
unfolding width_if
full true e = refl
full false e = absurd cc

-- a list that was read from rows has count entries if its flag is set, else none
column_listed : (b : Bool) (o k count : ℕ) (rows : List (List ℕ))
    → (b ≡ true → AllByRecursion (IsRow k) rows × (length rows ≡ count)) → IsListed b count (column_if b o rows)
unfolding column_if
column_listed true o k count rows h =
    let p = h refl in
    record {
      long = length-map rows (λ row. number row o 4) ∙ p.1;
      each = All-from_recursion (λ n. n < 2 ^ 32) (map (λ row. number row o 4) rows)
          (map_all k (λ row. number row o 4) (λ n. n < 2 ^ 32) (λ row is. number-below row o 4 is.are) rows p.0);
    }
column_listed false o k count rows h = record { long = refl; each = All-from_recursion (λ n. n < 2 ^ 32) [] tt }

offset_fits : (bytes : List ℕ) (b : Bool) (o : ℕ) → AreBytes bytes
    → IsPresent b 4 (unsigned_bits (signed_bits (number_if (number bytes) b o 4)))
    × FitsOptional (signed_bits (number_if (number bytes) b o 4))
unfolding number_if
offset_fits bytes true o are = ((refl, below32 bytes o are), signed32 bytes o are)
offset_fits bytes false o are = (refl, tt)

pub laws_trun : IsBox reads_trun format_trun
unfolding bytes_trun reads_trun reads_lists
laws_trun = record {
  header = λ v w.
      let a = optional 4 (unsigned_bits v.data_offset) in
      let b = optional 4 v.first_sample_flags in
      let r = rows_trun v v.sample_count in
      let is : bytes_of_fields (fields_trun v) ++ (a ++ (b ++ r)) ≡ bytes_of_fields (fields_trun v) ++ a ++ b ++ r =
      simp append_assoc in
      let la = length_optional (is_set v.flags FLAG_DATA_OFFSET) 4 (unsigned_bits v.data_offset)
      w.flagged.data_offset in
      let lb = length_optional (is_set v.flags FLAG_FIRST_SAMPLE_FLAGS) 4 v.first_sample_flags
      w.flagged.first_sample_flags in
      let lr = length_rows v w.listed v.sample_count (omega arith) in
      subst (BeginsWithHeader (size_trun v) names.TrunBox) is
      (header_in_front _ (a ++ (b ++ r)) w.fit
      (omega (arith, la, lb, lr, length-append a (b ++ r), length-append b r)));
  normal_form = λ v w. own_normal_form v refl w;
  read_back = λ v w rest start top.
      let cs = fields_trun v in
      let j = bytes_of_fields cs in
      let f = v.flags in
      let n = v.sample_count in
      let a = optional 4 (unsigned_bits v.data_offset) in
      let b = optional 4 v.first_sample_flags in
      let r = rows_trun v n in
      let B = (j ++ a ++ b ++ r) ++ rest in
      let z = a ++ (b ++ (r ++ rest)) in
      let is : B ≡ j ++ z = simp append_assoc in
      let is_b : B ≡ (j ++ a) ++ (b ++ (r ++ rest)) = simp append_assoc in
      let is_r : B ≡ (j ++ a ++ b) ++ (r ++ rest) = append_assoc (j ++ a ++ b) r rest in
      let lj : length j ≡ 16 = length-fields cs in
      let la = length_optional (is_set f FLAG_DATA_OFFSET) 4 (unsigned_bits v.data_offset) w.flagged.data_offset in
      let lb = length_optional (is_set f FLAG_FIRST_SAMPLE_FLAGS) 4 v.first_sample_flags w.flagged.first_sample_flags in
      let pa : length (j ++ a) ≡ first_flags_at f = omega (arith, lj, la, length-append j a) in
      let pb : length (j ++ a ++ b) ≡ rows_at f = omega (arith, pa, lb, length-append (j ++ a) b) in
      let long : rows_at f ≤ length B = omega (arith, pb, length-append (j ++ a ++ b) (r ++ rest), ap length is_r) in
      let n8 : number B 8 1 ≡ v.version = ap (λ (l : List ℕ). number l 8 1) is ∙ number-fields cs z 8 1 w.fit in
      let n9 : number B 9 3 ≡ f = ap (λ (l : List ℕ). number l 9 3) is ∙ number-fields cs z 9 3 w.fit in
      let n12 : number B 12 4 ≡ n = ap (λ (l : List ℕ). number l 12 4) is ∙ number-fields cs z 12 4 w.fit in
      let va : number_if (number B) (is_set f FLAG_DATA_OFFSET) 16 4 ≡ unsigned_bits v.data_offset =
      optional_back B j (unsigned_bits v.data_offset) (b ++ (r ++ rest)) (is_set f FLAG_DATA_OFFSET) 16 4 is lj
      w.flagged.data_offset in
      let vb = optional_back B (j ++ a) v.first_sample_flags (r ++ rest) (is_set f FLAG_FIRST_SAMPLE_FLAGS)
      (first_flags_at f) 4 is_b pa w.flagged.first_sample_flags in
      let first = expect_bytes_present B 8 8 (omega (arith, long)) in
      let second = expect_bytes_present B 16 (rows_at f - 16) (omega (arith, long)) in
      let count : length (range_with_len 0 n) ≡ n = length-range_with_len 0 n in
      let size : size_trun v ≡ rows_at f + row_length (row_flags f) * length (range_with_len 0 n) =
      ap (λ (k : ℕ). rows_at f + row_length (row_flags f) * k) (sym count) in
      let found : rows_within ((j ++ a ++ b) ++ (r ++ rest)) (size_trun v) (rows_at f) (row_length (row_flags f))
      (length (range_with_len 0 n)) ≡ done (map (row_trun v) (range_with_len 0 n)) =
      rows_within_back (row_trun v) (row_length (row_flags f)) (λ i. i < n) (length_row v w.listed) (j ++ a ++ b)
      (range_with_len 0 n) rest (rows_at f) (size_trun v) (all_range 0 n n (omega arith)) pb size in
      let rows : rows_within B (size_trun v) (rows_at f) (row_length (row_flags f)) (number B 12 4)
      ≡ done (map (row_trun v) (range_with_len 0 n)) =
      ap (λ (k : ℕ). rows_within B (size_trun v) (rows_at f) (row_length (row_flags f)) k) n12
      ∙ ap (λ (l : List ℕ). rows_within l (size_trun v) (rows_at f) (row_length (row_flags f)) n) is_r
      ∙ ap (λ (k : ℕ). rows_within ((j ++ a ++ b) ++ (r ++ rest)) (size_trun v) (rows_at f)
      (row_length (row_flags f)) k) (sym count) ∙ found in
      let made : value_trun f (number B) (lists_of (row_flags f) (map (row_trun v) (range_with_len 0 n))) ≡ v =
      ap (value_trun f (number B)) (lists_back v w.listed)
      ∙ (rw (n8, n12, va, offset_back v.data_offset w.flagged.offset_fits, vb) refl) in
      rw (first, n9, second, rows) (ap (λ (t : TrunBox). Ok t) made);
  stable = λ bytes start long v are read.
      let f = number bytes 9 3 in
      let n = number bytes 12 4 in
      let made : TrunLists → Reading TrunBox = λ lists. done (value_trun f (number bytes) lists) in
      let one = expect_bytes_ok bytes 8 8
      (λ _. expect_bytes bytes 16 (rows_at f - 16) >>= λ _. reads_lists bytes long (row_flags f) (rows_at f) n
      >>= made) v read in
      let two = expect_bytes_ok bytes 16 (rows_at f - 16)
      (λ _. reads_lists bytes long (row_flags f) (rows_at f) n >>= made) v one in
      let p = value_first (reads_lists bytes long (row_flags f) (rows_at f) n) made v two in
      let q = value_first (rows_within bytes long (rows_at f) (row_length (row_flags f)) n)
      (λ rows. memory >>= λ _. done (lists_of (row_flags f) rows)) p.0 p.1 in
      let rows : List (List ℕ) = q.0 in
      let here : 0 < row_length (row_flags f) → AllByRecursion (IsRow (row_length (row_flags f))) rows
      × (length rows ≡ n) =
      λ some. rows_within_read bytes long (rows_at f) (row_length (row_flags f)) n rows some are q.1 in
      let is_lists : lists_of (row_flags f) rows ≡ p.0 = is_value (lists_of (row_flags f) rows) p.0 q.2 in
      let t : TrunBox = value_trun f (number bytes) (lists_of (row_flags f) rows) in
      let is : t ≡ v = ap (value_trun f (number bytes)) is_lists ∙ is_value _ v p.2 in
      let offset = offset_fits bytes (is_set f FLAG_DATA_OFFSET) 16 are in
      let can : size_trun t < 2 ^ 32 → WritableTrun t = λ small. record {
        fit = (small, (lit< tt, fits_read bytes are (Number 8 1 ∷ Number 9 3 ∷ Number 12 4 ∷ [])));
        flagged = record {
          data_offset = offset.0;
          offset_fits = offset.1;
          first_sample_flags = number_is_present bytes (is_set f FLAG_FIRST_SAMPLE_FLAGS) (first_flags_at f) 4 are;
        };
        listed = record {
          durations = column_listed (row_flags f).duration 0 (row_length (row_flags f)) n rows
              (λ e. here (omega (arith, full (row_flags f).duration e)));
          sizes = column_listed (row_flags f).size (size_in_row (row_flags f)) (row_length (row_flags f)) n rows
              (λ e. here (omega (arith, full (row_flags f).size e)));
          flags = column_listed (row_flags f).flags (flags_in_row (row_flags f)) (row_length (row_flags f)) n rows
              (λ e. here (omega (arith, full (row_flags f).flags e)));
          cts = column_listed (row_flags f).cts (cts_in_row (row_flags f)) (row_length (row_flags f)) n rows
              (λ e. here (omega (arith, full (row_flags f).cts e)));
        };
      } in
      (refl, subst (λ (w : TrunBox). size_trun w < 2 ^ 32 → WritableTrun w) is can);
}
