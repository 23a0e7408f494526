-- Bytes that are those of a box that can be written.
use Rattle.std.proofs.Common.{◌≡◌, ℕ, zero, suc, ◌+◌, ◌*◌, ◌≤◌, ◌++◌, Bool, List, [], ◌∷◌, length, map, take, drop}
use Rattle.std.proofs.Common.{refl, sym, ap, subst, ◌∙◌, arith}
use Rattle.std.specs.List.{flat_map}
use Rattle.std.proofs.Math.Seq.{take-add}
use Rattle.std.proofs.lemmas.List.{drop-drop, length-map, take_all}
use Rattle.std.proofs.lemmas.List.Elements.{All-from_recursion}
use Rattle.mp4_lemmas.proofs.Lists.{front_and_rest}
use Rattle.mp4_frame.specs.BoxType.{code_of, name_of}
use Rattle.mp4_frame.specs.Bytes.{number, be_bytes, bytes_of_fields, width_of_fields, FieldsFit}
use Rattle.mp4_frame.specs.Format.{Format, IsWritten, IsNormalForm}
use Rattle.mp4_frame.specs.Laws.{AreBytes, OwnName, ReadsBack}
use Rattle.mp4_frame.specs.Reading.{Reading}
use Rattle.mp4_frame.specs.Tables.{rows, fields_table, size_table, WritableTable, bytes_table, IsWholeTable}
use Rattle.mp4_frame.specs.declared.box_type.BoxType.{BoxType}
use Rattle.mp4_frame.proofs.Fields.{number-below}
use Rattle.mp4_frame.proofs.NumberBytes.{bytes_there, fields_at, fields_there}
use Rattle.mp4_frame.proofs.TableLaws.{IsEntry, TableOf, format_table}
use Rattle.mp4_frame.proofs.Tables.{IsRow, rows_are, length-rows, map_all}

-- the value that is read from bytes in normal form
module _ {A : Type 0} (format : Format A) (known : BoxType → Bool)
    (named_reading : BoxType → List ℕ → ℕ → ℕ → Reading A) (written : IsWritten format)
    (own_name : (v : A) → format.Writable v → OwnName known (format.name v))
    (read_back : (v : A) → format.Writable v → ReadsBack (named_reading (format.name v)) (format.bytes v)
    (format.normal v)) where
  -- a value with these bytes, under the name that their code is read as
  pub normal_form_is_read : (bytes : List ℕ) → IsNormalForm format bytes
      → (v : A) × format.Writable v × (format.bytes v ≡ bytes)
      × ReadsBack (named_reading (name_of (number bytes 4 4))) bytes v
  normal_form_is_read bytes (u, w, is) =
      let n = written.normal_form u w in
      let code : number bytes 4 4 ≡ code_of (format.name u) = ap (λ (l : List ℕ). number l 4 4) (sym is)
      ∙ (written.header u w).code_next in
      let named : format.name u ≡ name_of (number bytes 4 4) = sym (own_name u w).is_own ∙ ap name_of (sym code) in (
        format.normal u,
        n.writable,
        n.same_bytes ∙ is,
        subst (λ (name : BoxType). ReadsBack (named_reading name) bytes (format.normal u)) named
            (subst (λ (l : List ℕ). ReadsBack (named_reading (format.name u)) l (format.normal u)) is
            (read_back u w)),
      )

-- an entry that is read from a row is written as this row
abbrev pub WritesBack : {X : Type 0} → (X → List ℕ) → (List ℕ → X) → ℕ → Type 0
WritesBack row_of entry_of e = (row : List ℕ) → IsRow e row → row_of (entry_of row) ≡ row

-- a number of w bytes as an entry
pub number_again : (w : ℕ) → WritesBack (λ n. be_bytes w n) (λ entry. number entry 0 w) w
number_again w row is = bytes_there row is.are 0 w (omega (arith, is.long)) ∙ take_all w row (omega (arith, is.long))

-- the numbers of a row as fields
pub fields_again : {e : ℕ} (ws : List ℕ) (row : List ℕ) → IsRow e row → width_of_fields (fields_at row 0 ws) ≡ e
    → bytes_of_fields (fields_at row 0 ws) ≡ row
fields_again ws row is wide =
    let n = width_of_fields (fields_at row 0 ws) in
    fields_there row is.are 0 ws (omega (arith, is.long, wide)) ∙ take_all n row (omega (arith, is.long, wide))

module _ {X : Type 0} (row_of : X → List ℕ) (entry_of : List ℕ → X) (e : ℕ) (again : WritesBack row_of entry_of e) where
  -- the entries of rows that are present are written as these rows
  pub rows_there : (B : List ℕ) (o n : ℕ) → AreBytes B → o + n * e ≤ length B
      → flat_map row_of (map entry_of (rows B o e n)) ≡ take (n * e) (drop o B)
  rows_there B o zero are room =
      let none : 0 ≡ 0 * e = omega arith in ap (λ (k : ℕ). take k (drop o B)) none
  rows_there B o (suc n) are room =
      let row = take e (drop o B) in
      let whole : suc n * e ≡ e + n * e = omega arith in
      let is : IsRow e row = (rows_are B o e (suc n) are (λ _. room)).0 in
      let rest = rows_there B (o + e) n are (omega (arith, room, whole)) in
      ap (λ (l : List ℕ). l ++ flat_map row_of (map entry_of (rows B (o + e) e n))) (again row is)
      ∙ ap (λ (l : List ℕ). row ++ l) (rest ∙ ap (take (n * e)) (sym (drop-drop e o B)))
      ∙ sym (take-add e (n * e) (drop o B)) ∙ ap (λ (k : ℕ). take k (drop o B)) (sym whole)

module _ {X V : Type 0} {row_of : X → List ℕ} {entry_of : List ℕ → X} {Fits : X → Type 0} {e : ℕ} (name : BoxType)
    (make : ℕ → ℕ → List X → V) (table : V → TableOf X) (entry : IsEntry row_of entry_of Fits e) where
  -- a whole box of one table is in normal form
  pub normal_table : WritesBack row_of entry_of e → ((version flags : ℕ) (xs : List X)
      → table (make version flags xs) ≡ record { version = version; flags = flags; entries = xs }) → (B : List ℕ)
      → IsWholeTable e (code_of name) B → IsNormalForm (format_table name make table entry) B
  normal_table again seen B t =
      let are = t.whole.are in
      let n = number B 12 4 in
      let version = number B 8 1 in
      let flags = number B 9 3 in
      let found = rows B 16 e n in
      let xs = map entry_of found in
      let many : length xs ≡ n = length-map found entry_of ∙ length-rows B 16 e n in
      let long : size_table e xs ≡ number B 0 4 =
      ap (λ (k : ℕ). 16 + e * k) many ∙ omega (arith, t.long) ∙ sym t.whole.size_first in
      let ws : List ℕ = 4 ∷ 4 ∷ 1 ∷ 3 ∷ 4 ∷ [] in
      let same : fields_table (size_table e xs) (code_of name) version flags (length xs) ≡ fields_at B 0 ws =
      rw (long, ← t.whole.code_next, many) refl in
      let fit : FieldsFit (fields_at B 0 ws) = (
        number-below B 0 4 are,
        (number-below B 4 4 are, (number-below B 8 1 are, (number-below B 9 3 are, (number-below B 12 4 are, tt)))),
      ) in
      let can : WritableTable Fits e (code_of name) version flags xs = record {
        fit = subst FieldsFit (sym same) fit;
        each = All-from_recursion Fits xs
            (map_all e entry_of Fits entry.fits found (rows_are B 16 e n are (λ _. omega (arith, t.long))));
      } in
      let is : bytes_table row_of e (code_of name) version flags xs ≡ B =
      front_and_rest B (bytes_of_fields (fields_table (size_table e xs) (code_of name) version flags (length xs)))
      (flat_map row_of xs) 16 (n * e) (ap bytes_of_fields same ∙ fields_there B are 0 ws (omega (arith, t.long)))
      (rows_there row_of entry_of e again B 16 n are (omega (arith, t.long))) t.long in
      let Whole = λ (u : TableOf X). WritableTable Fits e (code_of name) u.version u.flags u.entries
      × (bytes_table row_of e (code_of name) u.version u.flags u.entries ≡ B) in
      let made = subst Whole (sym (seen version flags xs)) (can, is) in
      (make version flags xs, made.0, made.1)
