-- The laws of a visual sample entry follow from those of its child.
use Rattle.std.proofs.Common.{◌≡◌, ℕ, ◌+◌, ◌<◌, ◌^◌, List, [], ◌∷◌, refl, sym, ap, subst, ◌∙◌, arith, lit<, lit≤}
use Rattle.mp4_frame.specs.BoxType.{code_of}
use Rattle.mp4_frame.specs.Bytes.{number, bytes_of_fields, FieldsFit}
use Rattle.mp4_frame.specs.Format.{Format, IsBox}
use Rattle.mp4_frame.specs.OneChild.{named_child}
use Rattle.mp4_frame.specs.Reading.{TakesNone, Reading, expect_bytes}
use Rattle.mp4_frame.specs.declared.box_type.BoxType.{BoxType}
use Rattle.mp4_frame.proofs.ChildLaws.{normal_size}
use Rattle.mp4_frame.proofs.Fields.{length-fields}
use Rattle.mp4_frame.proofs.Framing.{header_in_front, fits_read, Number, Fitting}
use Rattle.mp4_frame.proofs.NoMemory.{bind_takes_none, expect_bytes_takes_none, named_child_takes_none}
use Rattle.mp4_frame.proofs.OneChildLaws.{named_back, named_stable}
use Rattle.mp4_frame.proofs.FieldsThenChildLaws.{one_part, parent_normal_form, parent_back, parent_stable}
use Rattle.mp4_entries.specs.Visual.{visual_at, content_visual, fields_visual, reads_visual, size_visual, format_visual}
use Rattle.mp4_entries.specs.declared.visual.Visual.{Visual}

-- `made s c` is the box with the fields s and the child c. It has these fields and this child.
module _ {A P : Type 0} {reads : List ℕ → ℕ → ℕ → Reading A} {format : Format A} (laws : IsBox reads format)
    (child_code : ℕ) (child_coded : (c : A) → code_of (format.name c) ≡ child_code) (name : BoxType)
    (small : code_of name < 256 ^ 4)
    (visual : P → Visual) (child : P → A) (made : Visual → A → P)
    (own_fields : (s : Visual) (c : A) → visual (made s c) ≡ s)
    (own_child : (s : Visual) (c : A) → child (made s c) ≡ c) where
  abbrev fields : P → List (ℕ × ℕ)
  fields p = fields_visual (size_visual format (child p)) (code_of name) (visual p)

  abbrev with_child : P → A → P
  with_child p c = made (visual p) c

  abbrev inner : List ℕ → ℕ → ℕ → Reading A
  inner bytes start size = named_child reads child_code bytes start size 86

  abbrev value : (ℕ → ℕ → ℕ) → A → P
  value at c = made (visual_at at) c

  same_fields : (p : P) → format.Writable (child p) → fields (with_child p (format.normal (child p))) ≡ fields p
  same_fields p w =
      let n = format.normal (child p) in
      let code = code_of name in
      ap (λ (c : A). fields_visual (size_visual format c) code (visual (made (visual p) n))) (own_child (visual p) n)
      ∙ ap (fields_visual (size_visual format n) code) (own_fields (visual p) n)
      ∙ ap (λ (k : ℕ). fields_visual (86 + k) code (visual p)) (normal_size laws (child p) w)

  pub laws_visual : IsBox (reads_visual reads child_code made) (format_visual name format visual child made)
  laws_visual = record {
    header = λ v w. header_in_front (content_visual (visual v)) (format.bytes (child v)) w.fit
        (ap (λ (n : ℕ). 86 + n) (laws.header (child v) w.child).long);
    normal_form = λ v w.
        parent_normal_form (one_part laws) fields child with_child (λ p c. own_child (visual p) c)
        (λ p c d. ap (λ (s : Visual). made s d) (own_fields (visual p) c)) v (same_fields v w.child) w;
    read_back = λ v w rest start top.
        let back = named_back laws child_code child_coded (bytes_of_fields (fields v)) 86 (length-fields (fields v))
        (child v) w.child rest start top in
        parent_back (one_part laws) fields child with_child 8 78 inner value v rest start (size_visual format (child v))
        w.fit (lit≤ tt) back refl;
    stable = λ bytes start long v are e.
        let fitting = fits_read bytes are
        (Fitting 6 0 (lit< tt) ∷ Number 14 2 ∷ Fitting 16 0 (lit< tt) ∷ Number 32 2 ∷ Number 34 2 ∷ Number 36 4
        ∷ Number 40 4 ∷ Fitting 4 0 (lit< tt) ∷ Number 48 2 ∷ Fitting 32 0 (lit< tt) ∷ Number 82 2
        ∷ Fitting 2 0xffff (lit< tt) ∷ []) in
        let s = visual_at (number bytes) in
        parent_stable (one_part laws) fields child with_child 8 78 inner value (λ n c. own_child (visual_at n) c)
        (λ n c d. ap (λ (s : Visual). made s d) (own_fields (visual_at n) c))
        (λ p. size_visual format (child p)) (λ p. omega arith) bytes start long v e
        (λ c read. named_stable laws bytes start are long 86 child_code c read)
        (λ c fits. subst (λ (x : Visual).
        FieldsFit (fields_visual (size_visual format (child (made s c))) (code_of name) x)) (sym (own_fields s c))
        (fits, (small, fitting)));
  }

-- Reading a visual sample entry takes no memory if reading its child takes none.
pub visual_takes_none : {A P : Type 0} (reads : List ℕ → ℕ → ℕ → Reading A) (child_code : ℕ) (made : Visual → A → P)
    → ((bytes : List ℕ) (start size : ℕ) → TakesNone (reads bytes start size))
    → (bytes : List ℕ) (start size : ℕ) → TakesNone (reads_visual reads child_code made bytes start size)
visual_takes_none reads child_code made none bytes start size =
    bind_takes_none (expect_bytes bytes 8 78) _ (expect_bytes_takes_none bytes 8 78)
    (λ _. bind_takes_none (named_child reads child_code bytes start size 86) _
    (named_child_takes_none reads none bytes start child_code size 86) (λ _. refl))
