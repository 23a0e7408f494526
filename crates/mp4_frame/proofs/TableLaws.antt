-- The laws of a box of one counted table, from the laws of its entries.
use Rattle.std.proofs.Common.{◌≡◌, ℕ, ◌<◌, ◌^◌, List, [], length, Ok, refl, sym, ap, subst, ◌∙◌}
use Rattle.std.proofs.lemmas.List.{append-nil}
use Rattle.mp4_frame.specs.BoxType.{code_of}
use Rattle.mp4_frame.specs.Bytes.{number, be_bytes}
use Rattle.mp4_frame.specs.Format.{Format, IsBox}
use Rattle.mp4_frame.specs.Tables.{reads_table, size_table, WritableTable, bytes_table}
use Rattle.mp4_frame.specs.declared.box_type.BoxType.{BoxType}
use Rattle.mp4_frame.proofs.Fields.{length-be_bytes, number-be_bytes, number-below}
use Rattle.mp4_frame.proofs.Framing.{own_normal_form}
use Rattle.mp4_frame.proofs.Tables.{IsRow, header_of_table, table_back, table_read}

-- an entry that fits is written as a row of e bytes and read back from it, and an entry that was read fits
pub record IsEntry {X : Type 0} (row_of : X → List ℕ) (entry_of : List ℕ → X) (Fits : X → Type 0) (e : ℕ) : Type 0 where
  pub long : (x : X) → Fits x → length (row_of x) ≡ e
  pub back : (x : X) → Fits x → entry_of (row_of x) ≡ x
  pub fits : (row : List ℕ) → IsRow e row → Fits (entry_of row)

-- a number of w bytes as an entry
pub number_entry : (w : ℕ) → IsEntry (λ n. be_bytes w n) (λ entry. number entry 0 w) (λ n. n < 256 ^ w) w
number_entry w = record {
  long = λ n fits. length-be_bytes w n;
  back = λ n fits. ap (λ (entry : List ℕ). number entry 0 w) (sym (append-nil (be_bytes w n)))
      ∙ number-be_bytes w n [] fits;
  fits = λ entry is. number-below entry 0 w is.are;
}

-- the fields of a box of one table
pub record TableOf (X : Type 0) : Type 0 where
  pub version : ℕ
  pub flags : ℕ
  pub entries : List X

module _ {X V : Type 0} {row_of : X → List ℕ} {entry_of : List ℕ → X} {Fits : X → Type 0} {e : ℕ} (name : BoxType)
    (make : ℕ → ℕ → List X → V) (table : V → TableOf X) (entry : IsEntry row_of entry_of Fits e) where
  abbrev pub format_table : Format V
  format_table = record {
    name = λ _. name;
    size = λ v. size_table e (table v).entries;
    Writable = λ v. WritableTable Fits e (code_of name) (table v).version (table v).flags (table v).entries;
    bytes = λ v. bytes_table row_of e (code_of name) (table v).version (table v).flags (table v).entries;
    normal = λ v. v;
  }

  pub laws_table : ((v : V) → make (table v).version (table v).flags (table v).entries ≡ v)
      → ((version flags : ℕ) (xs : List X)
      → table (make version flags xs) ≡ record { version = version; flags = flags; entries = xs }) → 0 < e
      → code_of name < 256 ^ 4 → IsBox (λ bytes start size. reads_table make entry_of e bytes size) format_table
  laws_table whole seen some coded = record {
    header = λ v w. header_of_table make row_of entry_of Fits e (code_of name) some coded entry.long entry.back
        entry.fits name refl (table v).version (table v).flags (table v).entries w;
    normal_form = λ v w. own_normal_form v refl w;
    read_back = λ v w rest start top.
        table_back make row_of entry_of Fits e (code_of name) some coded entry.long entry.back entry.fits
        (table v).version (table v).flags (table v).entries rest w ∙ ap (λ (u : V). Ok u) (whole v);
    stable = λ bytes start long v are read.
        let p = table_read make row_of entry_of Fits e (code_of name) some coded entry.long entry.back entry.fits bytes
        long v are read in
        let can = λ (t : TableOf X). size_table e t.entries < 2 ^ 32
        → WritableTable Fits e (code_of name) t.version t.flags t.entries in
        (refl, subst (λ (u : V). can (table u)) p.3 (subst can (sym (seen p.0 p.1 p.2)) p.4));
  }
