-- Rows that are written one after the other.
use Rattle.std.proofs.Common.{◌≡◌, ℕ, ◌+◌, Bool, true, false, List, [], ◌∷◌, ◌++◌, length, take}
use Rattle.std.proofs.Common.{Result, Ok, Err, refl, sym, ap, subst, ◌∙◌, append_assoc, arith}
use Rattle.std.specs.Prelude.{◌||◌, if◌then◌else◌, not, OnErr}
use Rattle.std.specs.declared.option.Option.{Option}
use Rattle.std.proofs.KnownBytes.{Appends-nil, Appends-trans}
use Rattle.std.proofs.Math.Seq.{take-append-add, take-length}
use Rattle.std.proofs.lemmas.List.{append-nil, length-append}
use Rattle.std.specs.Io.KnownBytes.{Appends}
use Rattle.mp4_samples.specs.Edits.{EditList}
use Rattle.mp4_samples.specs.declared.sample.Sample.{Sample}
use Rattle.mp4_inspect_samples.specs.Listed.{is_listed, empty_after, empty_at_end, AreListed}
use Rattle.mp4_inspect_samples.specs.Row.{IsShown, Labels, row_of}
use Rattle.mp4_inspect_samples.specs.RowText.{row_text}
use Rattle.mp4_inspect_samples.specs.Rows.{Begins, BeginsRows, Entry, Follow, WritesRows, entry_text, has_row, is_after}
use Rattle.mp4_inspect_samples.specs.Rows.{rows_text, samples_of}
use Rattle.mp4_inspect_samples.specs.declared.limit.Limit.{Limit}
use Rattle.mp4_inspect_samples.specs.declared.row.Shown.{Shown}
use Rattle.mp4_inspect_samples.specs.declared.row_text.Form.{Form}

-- what holds of any outcome holds of a failed one
pub on_err : {A E P : Type 0} (r : Result A E) → P → OnErr r P
on_err (Ok v) p = tt
on_err (Err e) p = p

-- one sample more
follow_more : (Is : ℕ → Sample → Type 0) (edits : Option EditList) (k : ℕ) (xs : List Entry) (x : Entry)
    → Follow Is edits k xs → Is (k + length xs) x.sample → IsShown edits x.sample x.shown
    → Follow Is edits k (xs ++ x ∷ [])
follow_more Is edits k [] x follow is shown = (subst (λ (j : ℕ). Is j x.sample) (omega arith) is, shown, tt)
follow_more Is edits k (y ∷ xs) x follow is shown = (
  follow.0,
  follow.1,
  follow_more Is edits (k + 1) xs x follow.2 (subst (λ (j : ℕ). Is j x.sample) (omega arith) is) shown,
)

listed_more : (limit : Limit) (empty : ℕ) (xs : List Entry) (x : Entry) → AreListed limit empty (samples_of xs)
    → is_listed limit (empty_at_end empty (samples_of xs)) x.sample ≡ true
    → AreListed limit empty (samples_of (xs ++ x ∷ []))
listed_more limit empty [] x listed is = (is, tt)
listed_more limit empty (y ∷ xs) x listed is =
    (listed.0, listed_more limit (empty_after empty y.sample) xs x listed.1 is)

empty_more : (empty : ℕ) (xs : List Entry) (x : Entry)
    → empty_at_end empty (samples_of (xs ++ x ∷ [])) ≡ empty_after (empty_at_end empty (samples_of xs)) x.sample
empty_more empty [] x = refl
empty_more empty (y ∷ xs) x = empty_more (empty_after empty y.sample) xs x

after_more : (labels : Labels) (b : Bool) (xs : List Entry) (x : Entry)
    → is_after labels b (xs ++ x ∷ []) ≡ (is_after labels b xs || has_row labels x.sample)
after_more labels b [] x = refl
after_more labels b (y ∷ xs) x = after_more labels (b || has_row labels y.sample) xs x

text_more : (form : Form) (labels : Labels) (b : Bool) (n : ℕ) (xs : List Entry) (x : Entry)
    → rows_text form labels b n (xs ++ x ∷ []) ≡ rows_text form labels b n xs
    ++ entry_text form labels (is_after labels b xs) (n + length xs + 1) x.sample x.shown
text_more form labels b n [] x =
    append-nil _ ∙ ap (λ (j : ℕ). entry_text form labels b j x.sample x.shown) (omega arith)
text_more form labels b n (y ∷ xs) x =
    let one = entry_text form labels b (n + 1) y.sample y.shown in
    let c = b || has_row labels y.sample in
    let same : n + 1 + length xs + 1 ≡ n + length (y ∷ xs) + 1 = omega arith in
    ap (λ (t : List ℕ). one ++ t)
    (text_more form labels c (n + 1) xs x
    ∙ ap (λ (j : ℕ). rows_text form labels c (n + 1) xs
    ++ entry_text form labels (is_after labels c xs) j x.sample x.shown) same)
    ∙ sym (append_assoc one (rows_text form labels c (n + 1) xs) _)

-- rows of an equal form and state
pub writes_as : (Is : ℕ → Sample → Type 0) (limit : Limit) (form form2 : Form) (labels : Labels)
    (m empty_end : ℕ) (follows follows2 is_followed : Bool) (old new : Option (List ℕ))
    → WritesRows Is limit form2 labels 0 0 m empty_end follows2 is_followed old new
    → form2 ≡ form → follows2 ≡ follows
    → WritesRows Is limit form labels 0 0 m empty_end follows is_followed old new
writes_as Is limit form form2 labels m empty_end follows follows2 is_followed old new rows of after =
    subst (λ (f : Form). WritesRows Is limit f labels 0 0 m empty_end follows is_followed old new) of
    (subst (λ (b : Bool). WritesRows Is limit form2 labels 0 0 m empty_end b is_followed old new) after rows)

-- a sample that is no sync sample has no row, if only those have rows
pub no_row : (form : Form) (labels : Labels) (follows : Bool) (number : ℕ) (s : Sample) (t : Shown)
    → labels.sync ≡ true → s.is_sync ≡ false → [] ≡ entry_text form labels follows number s t
no_row form labels follows number s t only is_none =
    let none : has_row labels s ≡ false = ap (λ (b : Bool). not b || s.is_sync) only ∙ is_none in
    ap (λ (b : Bool). if b then row_text form follows (row_of labels number s t) else []) (sym none)

-- the row of a sample is written, or a beginning of it
abbrev pub WritesEntry : Form → Labels → Bool → ℕ → Sample → Option (List ℕ) → Option (List ℕ) → Type 0
WritesEntry form labels follows number s old new =
    (t : Shown) × IsShown labels.edits s t × Appends old new (entry_text form labels follows number s t)

abbrev pub BeginsEntry : Form → Labels → Bool → ℕ → Sample → Option (List ℕ) → Option (List ℕ) → Type 0
BeginsEntry form labels follows number s old new =
    (t : Shown) × IsShown labels.edits s t × Begins old new (entry_text form labels follows number s t)

module _ (Is : ℕ → Sample → Type 0) (limit : Limit) (form : Form) (labels : Labels) (n empty : ℕ)
    (follows : Bool) where
  pub writes_none : (old : Option (List ℕ)) → WritesRows Is limit form labels n empty 0 empty follows follows old old
  writes_none old = record {
    entries = [];
    are = tt;
    listed = tt;
    emptied = refl;
    count = refl;
    after = refl;
    bytes = Appends-nil old;
  }

  -- the row of the next sample is written
  writes_more : (m empty_end : ℕ) (is_followed : Bool) (old mid new : Option (List ℕ)) (s : Sample)
      → WritesRows Is limit form labels n empty m empty_end follows is_followed old mid → Is m s
      → is_listed limit empty_end s ≡ true
      → WritesEntry form labels is_followed (n + m + 1) s mid new
      → WritesRows Is limit form labels n empty (m + 1) (empty_after empty_end s) follows
      (is_followed || has_row labels s) old new
  writes_more m empty_end is_followed old mid new s rows is listed row =
      let x : Entry = record { sample = s; shown = row.0 } in
      record {
        entries = rows.entries ++ x ∷ [];
        are = follow_more Is labels.edits 0 rows.entries x rows.are
            (let counted = rows.count in let here : m ≡ 0 + length rows.entries =
            omega (arith, counted) in subst (λ (j : ℕ). Is j s) here is) row.1;
        listed = listed_more limit empty rows.entries x rows.listed
            (subst (λ (j : ℕ). is_listed limit j s ≡ true) rows.emptied listed);
        emptied = ap (λ (j : ℕ). empty_after j s) rows.emptied ∙ sym (empty_more empty rows.entries x);
        count = length-append rows.entries (x ∷ []) ∙ ap (λ (j : ℕ). j + 1) rows.count;
        after = ap (λ (b : Bool). b || has_row labels s) rows.after ∙ sym (after_more labels follows rows.entries x);
        bytes =
            subst (λ (t : List ℕ). Appends old new t) (sym (text_more form labels follows n rows.entries x))
            (Appends-trans old mid new (rows_text form labels follows n rows.entries) _ rows.bytes
            (subst (λ (j : ℕ). Appends mid new
            (entry_text form labels (is_after labels follows rows.entries) (n + j + 1) s row.0)) (sym rows.count)
            (subst (λ (b : Bool). Appends mid new (entry_text form labels b (n + m + 1) s row.0)) rows.after row.2)));
      }

  -- a beginning of the row of the next sample is written
  begins_more : (m empty_end : ℕ) (is_followed : Bool) (old mid new : Option (List ℕ)) (s : Sample)
      → WritesRows Is limit form labels n empty m empty_end follows is_followed old mid → Is m s
      → is_listed limit empty_end s ≡ true
      → BeginsEntry form labels is_followed (n + m + 1) s mid new
      → BeginsRows Is limit form labels n empty follows old new
  begins_more m empty_end is_followed old mid new s rows is listed row =
      let x : Entry = record { sample = s; shown = row.0 } in
      let before = rows_text form labels follows n rows.entries in
      record {
        entries = rows.entries ++ x ∷ [];
        are = follow_more Is labels.edits 0 rows.entries x rows.are
            (let counted = rows.count in let here : m ≡ 0 + length rows.entries =
            omega (arith, counted) in subst (λ (j : ℕ). Is j s) here is) row.1;
        listed = listed_more limit empty rows.entries x rows.listed
            (subst (λ (j : ℕ). is_listed limit j s ≡ true) rows.emptied listed);
        bytes = record {
          count = length before + row.2.count;
          bytes =
              subst (λ (t : List ℕ). Appends old new (take (length before + row.2.count) t))
              (sym (text_more form labels follows n rows.entries x))
              (subst (λ (t : List ℕ). Appends old new t)
              (sym (take-append-add before _ row.2.count))
              (Appends-trans old mid new before _ rows.bytes
              (subst (λ (j : ℕ). Appends mid new (take row.2.count
              (entry_text form labels (is_after labels follows rows.entries) (n + j + 1) s row.0))) (sym rows.count)
              (subst (λ (b : Bool). Appends mid new
              (take row.2.count (entry_text form labels b (n + m + 1) s row.0))) rows.after row.2.bytes))));
        };
      }

  -- the same, of a row that is that of the sample
  pub writes_next : (m m2 number empty_end empty2 : ℕ) (form2 : Form) (is_followed is_after : Bool)
      (old mid new : Option (List ℕ)) (s : Sample)
      → WritesRows Is limit form labels n empty m empty_end follows is_followed old mid → Is m s
      → is_listed limit empty_end s ≡ true → empty2 ≡ empty_after empty_end s → m2 ≡ m + 1
      → number ≡ n + m + 1 → form2 ≡ form → is_after ≡ (is_followed || has_row labels s)
      → WritesEntry form2 labels is_followed number s mid new
      → WritesRows Is limit form labels n empty m2 empty2 follows is_after old new
  writes_next m m2 number empty_end empty2 form2 is_followed is_after old mid new s rows is listed emptied next
      counted of after written =
      subst (λ (b : Bool). WritesRows Is limit form labels n empty m2 empty2 follows b old new) (sym after)
      (subst (λ (j : ℕ). WritesRows Is limit form labels n empty j empty2 follows (is_followed || has_row labels s) old
      new) (sym next)
      (subst (λ (j : ℕ). WritesRows Is limit form labels n empty (m + 1) j follows (is_followed || has_row labels s) old
      new) (sym emptied)
      (writes_more m empty_end is_followed old mid new s rows is listed
      (subst (λ (f : Form). WritesEntry f labels is_followed (n + m + 1) s mid new) of
      (subst (λ (j : ℕ). WritesEntry form2 labels is_followed j s mid new) counted written)))))

  pub begins_next : (m number empty_end : ℕ) (form2 : Form) (is_followed : Bool) (old mid new : Option (List ℕ))
      (s : Sample)
      → WritesRows Is limit form labels n empty m empty_end follows is_followed old mid → Is m s
      → is_listed limit empty_end s ≡ true → number ≡ n + m + 1 → form2 ≡ form
      → BeginsEntry form2 labels is_followed number s mid new → BeginsRows Is limit form labels n empty follows old new
  begins_next m number empty_end form2 is_followed old mid new s rows is listed counted of written =
      begins_more m empty_end is_followed old mid new s rows is listed
      (subst (λ (f : Form). BeginsEntry f labels is_followed (n + m + 1) s mid new) of
      (subst (λ (j : ℕ). BeginsEntry form2 labels is_followed j s mid new) counted written))

  -- a beginning of the rows of samples that are written
  pub begins_all : (m empty_end : ℕ) (is_followed : Bool) (old new : Option (List ℕ))
      → WritesRows Is limit form labels n empty m empty_end follows is_followed old new
      → BeginsRows Is limit form labels n empty follows old new
  begins_all m empty_end is_followed old new rows = record {
    entries = rows.entries;
    are = rows.are;
    listed = rows.listed;
    bytes = record {
      count = length (rows_text form labels follows n rows.entries);
      bytes = subst (λ (t : List ℕ). Appends old new t) (sym (take-length _)) rows.bytes;
    };
  }
