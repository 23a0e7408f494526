-- The laws of elst follow from those of its entries.
use Rattle.std.proofs.Common.{◌≡◌, ℕ, ◌<◌, ◌^◌, Bool, true, false, List, [], ◌∷◌, ◌++◌, map, Ok, length, refl, sym, ap}
use Rattle.std.proofs.Common.{subst, ◌∙◌, append_assoc, lit<}
use Rattle.std.specs.List.{flat_map}
use Rattle.mp4_frame.specs.Format.{IsBox}
use Rattle.mp4_frame.specs.Bytes.{number, bytes_of_fields}
use Rattle.mp4_frame.specs.Reading.{Reading, ◌>>=◌, check, memory, done}
use Rattle.mp4_frame.specs.Tables.{Table, counted_rows, rows_at, fields_table, size_table}
use Rattle.mp4_frame.specs.declared.box_type.BoxType.TheVariants as names
use Rattle.mp4_frame.proofs.Framing.{own_normal_form, fits_read, Number}
use Rattle.mp4_frame.proofs.Fields.{length-fields, number-fields}
use Rattle.mp4_frame.proofs.Checks.{expect_bytes_ok, check_ok, is_value}
use Rattle.mp4_frame.proofs.Tables.{IsRow, header_of_table, table_back, table_read, value_first}
use Rattle.mp4_tables.specs.EntryLaws.{fields_back}
use Rattle.mp4_tables.specs.ElstEntry.{is_long, row_length, value_elst_entry, entry_elst, fields_elst_entry, row_elst}
use Rattle.mp4_tables.specs.ElstEntry.{FitsElstEntry}
use Rattle.mp4_tables.specs.Elst.{made_elst, reads_elst_rows, reads_elst, size_elst, WritableElstRows, bytes_elst_rows}
use Rattle.mp4_tables.specs.Elst.{bytes_elst, format_elst}
use Rattle.mp4_tables.specs.declared.elst.ElstBox.{ElstBox}
use Rattle.mp4_frame.specs.declared.codes.TheConstants as codes
use Rattle.mp4_tables.specs.declared.elst_entry.ElstEntry.{ElstEntry}

some_bytes : (b : Bool) → 0 < row_length b
some_bytes true = lit< tt
some_bytes false = lit< tt

entry_long : (b : Bool) (e : ElstEntry) → FitsElstEntry b e → length (row_elst b e) ≡ row_length b
entry_long true e fits = length-fields (fields_elst_entry true e)
entry_long false e fits = length-fields (fields_elst_entry false e)

entry_back : (b : Bool) (e : ElstEntry) → FitsElstEntry b e → entry_elst b (row_elst b e) ≡ e
entry_back true e fits = fields_back (value_elst_entry 8) (fields_elst_entry true e) e fits refl
entry_back false e fits = fields_back (value_elst_entry 4) (fields_elst_entry false e) e fits refl

entry_fits : (b : Bool) (row : List ℕ) → IsRow (row_length b) row → FitsElstEntry b (entry_elst b row)
entry_fits true row is = fits_read row is.are (Number 0 8 ∷ Number 8 8 ∷ Number 16 2 ∷ Number 18 2 ∷ [])
entry_fits false row is = fits_read row is.are (Number 0 4 ∷ Number 4 4 ∷ Number 8 2 ∷ Number 10 2 ∷ [])

-- the version of a table that was read is the number at offset 8
version_read : (bytes : List ℕ) (size e : ℕ) (t : Table) → (counted_rows bytes size e).outcome ≡ Ok t
    → t.version ≡ number bytes 8 1
unfolding counted_rows
version_read bytes size e t h =
    let made : List (List ℕ) → Reading Table =
    λ r. done (record { version = number bytes 8 1; flags = number bytes 9 3; rows = r }) in
    let a = expect_bytes_ok bytes 8 8 (λ _. check _ >>= λ _. rows_at bytes 16 e (number bytes 12 4) >>= made) t h in
    let b = check_ok _ (λ _. rows_at bytes 16 e (number bytes 12 4) >>= made) t a in
    let c = value_first (rows_at bytes 16 e (number bytes 12 4)) made t b.1 in
    sym (ap (λ (t : Table). t.version) (is_value _ t c.2))

pub laws_elst : IsBox reads_elst format_elst
unfolding bytes_elst bytes_elst_rows reads_elst reads_elst_rows
laws_elst = record {
  header = λ v w.
      let b = is_long v.version in
      header_of_table made_elst (row_elst b) (entry_elst b) (FitsElstEntry b) (row_length b) codes.ELST (some_bytes b)
      (lit< tt) (entry_long b) (entry_back b) (entry_fits b) names.ElstBox refl v.version v.flags v.entries w;
  normal_form = λ v w. own_normal_form v refl w;
  read_back = λ v w rest start top.
      let b = is_long v.version in
      let cs = fields_table (size_elst v) codes.ELST v.version v.flags (length v.entries) in
      let z = flat_map (row_elst b) v.entries in
      let version : number ((bytes_of_fields cs ++ z) ++ rest) 8 1 ≡ v.version =
      ap (λ (l : List ℕ). number l 8 1) (append_assoc (bytes_of_fields cs) z rest)
      ∙ number-fields cs (z ++ rest) 8 1 w.fit in
      let back = table_back made_elst (row_elst b) (entry_elst b) (FitsElstEntry b) (row_length b) codes.ELST
      (some_bytes b) (lit< tt) (entry_long b) (entry_back b) (entry_fits b) v.version v.flags v.entries rest w in
      ap (λ (n : ℕ). (reads_elst_rows (is_long n) ((bytes_of_fields cs ++ z) ++ rest) (size_elst v)).outcome) version
      ∙ back;
  stable = λ bytes start long v are read.
      let b = is_long (number bytes 8 1) in
      let p = table_read made_elst (row_elst b) (entry_elst b) (FitsElstEntry b) (row_length b) codes.ELST
      (some_bytes b) (lit< tt) (entry_long b) (entry_back b) (entry_fits b) bytes long v are read in
      let c = value_first (counted_rows bytes long (row_length b))
      (λ (t : Table). memory >>= λ _. done (made_elst t.version t.flags (map (entry_elst b) t.rows))) v read in
      let made : made_elst c.0.version c.0.flags (map (entry_elst b) c.0.rows) ≡ v = is_value _ v c.2 in
      let version : v.version ≡ number bytes 8 1 = sym (ap (λ (w : ElstBox). w.version) made)
      ∙ version_read bytes long (row_length b) c.0 c.1 in
      let by : size_table (row_length b) v.entries < 2 ^ 32 → WritableElstRows b v =
      subst (λ (w : ElstBox). size_table (row_length b) w.entries < 2 ^ 32 → WritableElstRows b w) p.3 p.4 in (
        refl,
        subst (λ (n : ℕ). size_table (row_length (is_long n)) v.entries < 2 ^ 32 → WritableElstRows (is_long n) v)
            (sym version) by,
      );
}
