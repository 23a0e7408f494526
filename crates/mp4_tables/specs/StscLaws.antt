-- The laws of stsc. The computed first samples do not depend on the first samples that the entries have already. So a
-- box with computed first samples is its own normal form.
use Rattle.std.proofs.Common.{◌≡◌, ℕ, ◌+◌, ◌-◌, ◌^◌, ◌<◌, Bool, true, ◌&&◌, List, [], ◌∷◌, ◌++◌, length, map, ltb, leb}
use Rattle.std.proofs.Common.{cond, refl, ap, subst, ◌∙◌, arith, lit<}
use Rattle.std.specs.List.{flat_map, AllByRecursion, list_all, range_with_len, sum_by}
use Rattle.std.proofs.lemmas.List.{length-map}
use Rattle.std.proofs.lemmas.List.Elements.{All-from_recursion, recursion_from_All}
use Rattle.mp4_lemmas.proofs.Lists.{length_flat}
use Rattle.mp4_frame.specs.Format.{IsBox}
use Rattle.mp4_frame.specs.Reading.{◌>>=◌, done}
use Rattle.mp4_frame.specs.Tables.{Table, counted_rows, WritableTable}
use Rattle.mp4_frame.proofs.Framing.{header_in_front, fits_read, Number}
use Rattle.mp4_frame.proofs.Fields.{length-fields}
use Rattle.mp4_frame.proofs.Checks.{check_ok, is_value}
use Rattle.mp4_frame.proofs.Tables.{IsRow, counted_rows_back, counted_rows_read, map_all, value_first}
use Rattle.mp4_tables.specs.EntryLaws.{fields_back}
use Rattle.mp4_tables.specs.Chunks.{samples_in, begins, sample_at, in_order, chunks_fit, with_sample, number_samples}
use Rattle.mp4_tables.specs.StscEntry.{value_stsc_entry, entry_stsc, fields_stsc_entry, row_stsc, FitsStscEntry}
use Rattle.mp4_tables.specs.Stsc.{numbered_entries, reads_stsc, size_stsc, WritableStsc, bytes_stsc, normal_stsc}
use Rattle.mp4_tables.specs.Stsc.{format_stsc}
use Rattle.mp4_tables.specs.declared.stsc.StscBox.{StscBox}
use Rattle.mp4_frame.specs.declared.codes.TheConstants as codes
use Rattle.mp4_tables.specs.declared.stsc_entry.StscEntry.{StscEntry}

-- the computed first samples do not change if the entries get other first samples, those of h
module _ (h : StscEntry → ℕ) where
  abbrev renumber : List StscEntry → List StscEntry
  renumber es = map (λ e. with_sample e (h e)) es

  same_samples : (s c : ℕ) (es : List StscEntry) → samples_in s (renumber es) c ≡ samples_in s es c
  same_samples s c [] = refl
  same_samples s c (e ∷ es) = same_samples (cond (leb e.first_chunk c) e.samples_per_chunk s) c es

  same_begins : (es : List StscEntry) → begins (renumber es) ≡ begins es
  same_begins [] = refl
  same_begins (e ∷ es) = refl

  same_order : (k : ℕ) (es : List StscEntry) → in_order k (renumber es) ≡ in_order k es
  same_order k [] = refl
  same_order k (e ∷ es) = ap (λ (b : Bool). leb k e.first_chunk && b) (same_order e.first_chunk es)

  same_sample_at : (es : List StscEntry) → ◌≡◌ {A = ℕ → ℕ} (sample_at (renumber es)) (sample_at es)
  same_sample_at es =
      let each : ◌≡◌ {A = ℕ → ℕ} (samples_in 0 (renumber es)) (samples_in 0 es) = λ i c. same_samples 0 c es i in
      ap (λ (g : ℕ → ℕ). λ (b : ℕ). 1 + sum_by g (range_with_len (begins (renumber es)) (b - begins (renumber es))))
      each
      ∙ ap (λ (a : ℕ). λ (b : ℕ). 1 + sum_by (λ c. samples_in 0 es c) (range_with_len a (b - a))) (same_begins es)

  same_all : (t : ℕ → Bool) (es : List StscEntry)
      → list_all (λ e. t e.first_chunk) (renumber es) ≡ list_all (λ e. t e.first_chunk) es
  same_all t [] = refl
  same_all t (e ∷ es) = ap (λ (b : Bool). t e.first_chunk && b) (same_all t es)

  same_map : (n : ℕ → ℕ) (es : List StscEntry)
      → map (λ e. with_sample e (n e.first_chunk)) (renumber es) ≡ map (λ e. with_sample e (n e.first_chunk)) es
  same_map n [] = refl
  same_map n (e ∷ es) = ap (λ (r : List StscEntry). with_sample e (n e.first_chunk) ∷ r) (same_map n es)

  same_fit : (es : List StscEntry) → chunks_fit (renumber es) ≡ chunks_fit es
  same_fit es =
      ap (λ (b : Bool). b && list_all (λ e. ltb (sample_at (renumber es) e.first_chunk) (2 ^ 32)) (renumber es))
      (same_order 0 es)
      ∙ ap (λ (b : Bool). in_order 0 es && b)
      (same_all (λ c. ltb (sample_at (renumber es) c) (2 ^ 32)) es
      ∙ ap (λ (n : ℕ → ℕ). list_all (λ e. ltb (n e.first_chunk) (2 ^ 32)) es) (same_sample_at es))

  same_numbers : (es : List StscEntry) → number_samples (renumber es) ≡ number_samples es
  same_numbers es = same_map (λ c. sample_at (renumber es) c) es
      ∙ ap (λ (n : ℕ → ℕ). map (λ e. with_sample e (n e.first_chunk)) es) (same_sample_at es)

  same_bytes : (es : List StscEntry) → flat_map row_stsc (renumber es) ≡ flat_map row_stsc es
  same_bytes [] = refl
  same_bytes (e ∷ es) = ap (λ (r : List ℕ). row_stsc e ++ r) (same_bytes es)

  same_fits : (es : List StscEntry) → AllByRecursion FitsStscEntry es → AllByRecursion FitsStscEntry (renumber es)
  same_fits [] w = tt
  same_fits (e ∷ es) w = (w.0, same_fits es w.1)

entry_long : (e : StscEntry) → FitsStscEntry e → length (row_stsc e) ≡ 12
entry_long e fits = length-fields (fields_stsc_entry e)

entry_back : (e : StscEntry) → FitsStscEntry e → entry_stsc (row_stsc e) ≡ with_sample e 0
entry_back e fits = fields_back value_stsc_entry (fields_stsc_entry e) (with_sample e 0) fits refl

entries_back : (es : List StscEntry) → AllByRecursion FitsStscEntry es
    → map entry_stsc (map row_stsc es) ≡ renumber (λ _. 0) es
entries_back [] w = refl
entries_back (e ∷ es) w = rw (entry_back e w.0, entries_back es w.1) refl

entry_fits : (row : List ℕ) → IsRow 12 row → FitsStscEntry (entry_stsc row)
entry_fits row is = fits_read row is.are (Number 0 4 ∷ Number 4 4 ∷ Number 8 4 ∷ [])

table_of_renumbered : (h : StscEntry → ℕ) (version flags : ℕ) (es : List StscEntry)
    → WritableTable FitsStscEntry 12 codes.STSC version flags es
    → WritableTable FitsStscEntry 12 codes.STSC version flags (renumber h es)
table_of_renumbered h version flags es w =
    let len = length-map es (λ (e : StscEntry). with_sample e (h e)) in
    record {
      fit = rw len w.fit;
      each = All-from_recursion FitsStscEntry (renumber h es)
          (same_fits h es (recursion_from_All FitsStscEntry es w.each));
    }

pub laws_stsc : IsBox reads_stsc format_stsc
unfolding bytes_stsc reads_stsc
laws_stsc = record {
  header = λ v w.
      let long = length_flat row_stsc 12 FitsStscEntry entry_long v.entries
      (recursion_from_All FitsStscEntry v.entries w.table.each) in
      header_in_front _ (flat_map row_stsc v.entries) w.table.fit (omega (arith, long));
  normal_form = λ v w.
      let h : StscEntry → ℕ = λ e. sample_at v.entries e.first_chunk in
      let len = length-map v.entries (λ (e : StscEntry). with_sample e (sample_at v.entries e.first_chunk)) in
      record {
        writable = record {
          table = table_of_renumbered h v.version v.flags v.entries w.table;
          chunks = same_fit h v.entries ∙ w.chunks;
        };
        again = ap (λ (es : List StscEntry). record v { entries = es }) (same_numbers h v.entries);
        same_bytes = rw (len, same_bytes h v.entries) refl;
      };
  read_back = λ v w rest start top.
      let each = recursion_from_All FitsStscEntry v.entries w.table.each in
      let t = counted_rows_back row_stsc 12 FitsStscEntry entry_long codes.STSC v.version v.flags v.entries rest
      (lit< tt) each w.table.fit in
      let raw = entries_back v.entries each in
      let fit : chunks_fit (renumber (λ _. 0) v.entries) ≡ true = same_fit (λ _. 0) v.entries ∙ w.chunks in
      let numbers = same_numbers (λ _. 0) v.entries in
      rw (t, raw, fit, numbers) refl;
  stable = λ bytes start long v are read.
      let p = value_first (counted_rows bytes long 12)
      (λ (t : Table). numbered_entries t.rows >>= λ entries.
      done (record { version = t.version; flags = t.flags; entries = entries })) v read in
      let t = counted_rows_read bytes long 12 p.0 (lit< tt) are p.1 in
      let es = map entry_stsc p.0.rows in
      let box : List StscEntry → StscBox = λ xs. record { version = p.0.version; flags = p.0.flags; entries = xs } in
      let n = value_first (numbered_entries p.0.rows) (λ entries. done (box entries)) v p.2 in
      let q = check_ok (chunks_fit es) (λ _. done (number_samples es)) n.0 n.1 in
      let made : StscBox = box (number_samples es) in
      let is : made ≡ v = ap box (is_value (number_samples es) n.0 q.1) ∙ is_value (box n.0) v n.2 in
      let h : StscEntry → ℕ = λ e. sample_at es e.first_chunk in
      let len = length-map es (λ (e : StscEntry). with_sample e (sample_at es e.first_chunk)) in
      let count : length (number_samples es) < 256 ^ 4 = omega (arith, len, t.2, length-map p.0.rows entry_stsc) in
      let own_normal_form : normal_stsc made ≡ made =
      ap (λ (xs : List StscEntry). record made { entries = xs }) (same_numbers h es) in
      let can : size_stsc made < 2 ^ 32 → WritableStsc made = λ small. record {
        table = record {
          fit = (small, (lit< tt, (t.0, (t.1, (count, tt)))));
          each =
              All-from_recursion FitsStscEntry (number_samples es)
              (same_fits h es (map_all 12 entry_stsc FitsStscEntry entry_fits p.0.rows t.3));
        };
        chunks = same_fit h es ∙ q.0;
      } in
      subst (λ (w : StscBox). (normal_stsc w ≡ w) × (size_stsc w < 2 ^ 32 → WritableStsc w)) is (own_normal_form, can);
}
