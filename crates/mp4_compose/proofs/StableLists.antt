-- Lists of boxes that were read, where the reading of a box is stable.
use Rattle.std.proofs.Common.{◌≡◌, ℕ, zero, suc, ◌+◌, ◌-◌, ◌<◌, ◌^◌, Bool, true, false, cond, List, [], ◌∷◌, ◌++◌}
use Rattle.std.proofs.Common.{length, map, Result, Ok, Err, refl, sym, ap, subst, ◌∙◌, arith}
use Rattle.std.specs.List.{AllByRecursion}
use Rattle.std.specs.Prelude.{nat_lt, nat_le, ◌==◌}
use Rattle.std.proofs.lemmas.Bool.{cond_both}
use Rattle.mp4_frame.specs.BoxType.{code_of, code_of-name_of}
use Rattle.mp4_frame.specs.Bytes.{number}
use Rattle.mp4_frame.specs.Format.{Format, IsWritten}
use Rattle.mp4_frame.specs.Heads.{head, frame_of_head, frame_of, frame, name_in, end_in}
use Rattle.mp4_frame.specs.Laws.{AreBytes}
use Rattle.mp4_frame.specs.Reading.{Reading, Fault, ◌>>=◌, memory, done}
use Rattle.mp4_frame.specs.Streams.{walk_on, walk_at_most, box_of, boxes, reading_in, stream}
use Rattle.mp4_frame.specs.declared.box_type.BoxType.{BoxType}
use Rattle.mp4_frame.specs.declared.frame.Frame.{Frame}
use Rattle.mp4_frame.proofs.Checks.{is_value}
use Rattle.mp4_frame.proofs.Fields.{number-below}
use Rattle.mp4_frame.proofs.Heads.{of_both_forms}
use Rattle.mp4_frame.proofs.Tables.{value_first}
use Rattle.mp4_compose.specs.Stable.{ReadsStably}

-- ---- the code of a frame has four bytes

head_code : (B : List ℕ) (o : ℕ) (c : Frame) → (head B o).outcome ≡ Ok c → number B (o + 4) 4 ≡ c.code
head_code B o = of_both_forms (λ c. number B (o + 4) 4 ≡ c.code) B o (λ room. refl) (λ room. refl)

abbrev IsCoded : ℕ → Result Frame Fault → Type 0
IsCoded code (Ok f) = f.code ≡ code
IsCoded code (Err k) = Unit {0}

frame_coded : (len : ℕ) (h : Frame) → IsCoded h.code (frame_of_head len h)
unfolding frame_of_head
frame_coded len h =
    cond_both (h.size == 0) _ _ (IsCoded h.code) (λ _. refl) (λ _.
    cond_both (nat_lt h.size 8) _ _ (IsCoded h.code) (λ _. tt) (λ _.
    cond_both (nat_lt (2 ^ 64 - 1) (end_in h)) _ _ (IsCoded h.code) (λ _. tt) (λ _.
    cond_both (nat_lt len (end_in h)) _ _ (IsCoded h.code) (λ _. tt) (λ _. refl))))

code_in_frame : (B : List ℕ) (o : ℕ) (f : Frame) → AreBytes B → (r : Result Frame Fault) → (head B o).outcome ≡ r
    → frame_of (length B) r ≡ Ok f → code_of (name_in f) < 2 ^ 32
code_in_frame B o f are (Ok h) is e =
    let same : f.code ≡ h.code = subst (IsCoded h.code) e (frame_coded (length B) h) in
    let code : code_of (name_in f) ≡ number B (o + 4) 4 = code_of-name_of f.code ∙ same ∙ sym (head_code B o h is) in
    omega (arith, code, number-below B (o + 4) 4 are)
code_in_frame B o f are (Err k) is e = absurd cc

-- ---- lists that were read

-- a property of a list that ends here, or continues with the rest
by_end : {A : Type 0} (b : Bool) (r : Reading (List A)) (vs : List A) (P : List A → Type 0) → P []
    → (r.outcome ≡ Ok vs → P vs) → (cond b (done []) r).outcome ≡ Ok vs → P vs
by_end true r vs P none more e = subst P (is_value [] vs e) none
by_end false r vs P none more e = more e

module _ {A : Type 0} (format : Format A) (known : BoxType → Bool)
    (reading : BoxType → List ℕ → ℕ → ℕ → Reading A) where
  -- a value is its own normal form, and can be written unless it is too large
  abbrev IsStable : A → Type 0
  IsStable v = (format.normal v ≡ v) × (format.size v < 2 ^ 32 → format.Writable v)

  abbrev pub AreStable : List A → Type 0
  AreStable vs = AllByRecursion IsStable vs

  joined : (xs ys : List A) → AreStable xs → AreStable ys → AreStable (xs ++ ys)
  joined [] ys p q = q
  joined (x ∷ xs) ys p q = (p.0, joined xs ys p.1 q)

  pub own_normal_forms : (vs : List A) → AreStable vs → map format.normal vs ≡ vs
  own_normal_forms [] h = refl
  own_normal_forms (v ∷ vs) h = ap (λ (u : A). u ∷ map format.normal vs) h.0.0
      ∙ ap (λ (us : List A). v ∷ us) (own_normal_forms vs h.1)

  pub are_writable : (vs : List A) → AreStable vs → AllByRecursion (λ v. format.size v < 2 ^ 32) vs
      → AllByRecursion format.Writable vs
  are_writable [] h small = tt
  are_writable (v ∷ vs) h small = (h.0.1 small.0, are_writable vs h.1 small.1)

  module _ (stable : ReadsStably known reading format) (B : List ℕ) (are : AreBytes B) where
    item_by : (f : Frame) → code_of (name_in f) < 2 ^ 32 → (xs : List A) (b : Bool) → known (name_in f) ≡ b
        → (cond b (reading_in reading B f >>= λ v. memory >>= λ _. done (v ∷ [])) (done [])).outcome ≡ Ok xs
        → AreStable xs
    item_by f small xs true is e =
        let p = value_first (reading_in reading B f) (λ v. memory >>= λ _. done (v ∷ [])) xs e in
        subst AreStable (is_value (p.0 ∷ []) xs p.2)
        (stable (name_in f) is small B f.start f.size p.0 are p.1, tt)
    item_by f small xs false is e = subst AreStable (is_value [] xs e) tt

    walk_on_stable : (o : ℕ) (rest : ℕ → Reading (List A))
        → ((e : ℕ) (ys : List A) → (rest e).outcome ≡ Ok ys → AreStable ys) → (r : Result Frame Fault) → frame B o ≡ r
        → (vs : List A) → (walk_on (box_of known reading B) rest r).outcome ≡ Ok vs → AreStable vs
    walk_on_stable o rest after (Ok f) is vs e =
        let small = code_in_frame B o f are (head B o).outcome refl is in
        let p = value_first (box_of known reading B f) (λ xs. rest (end_in f) >>= λ ys. done (xs ++ ys)) vs e in
        let q = value_first (rest (end_in f)) (λ ys. done (p.0 ++ ys)) vs p.2 in
        subst AreStable (is_value (p.0 ++ q.0) vs q.2)
        (joined p.0 q.0 (item_by f small p.0 (known (name_in f)) refl p.1) (after (end_in f) q.0 q.1))
    walk_on_stable o rest after (Err k) is vs e = absurd cc

    walk_stable : (n o : ℕ) (vs : List A) → (walk_at_most (box_of known reading B) B n o).outcome ≡ Ok vs → AreStable vs
    unfolding walk_at_most
    walk_stable zero o vs e = subst AreStable (is_value [] vs e) tt
    walk_stable (suc n) o vs e =
        by_end (nat_le (length B) o)
        (walk_on (box_of known reading B) (λ e. walk_at_most (box_of known reading B) B n e) (frame B o)) vs
        AreStable tt
        (walk_on_stable o (λ e. walk_at_most (box_of known reading B) B n e) (λ e ys h. walk_stable n e ys h)
        (frame B o) refl vs) e

    -- all boxes of a list that was read are stable
    pub read_lists_are_stable : (o : ℕ) (vs : List A) → (boxes known reading B o).outcome ≡ Ok vs → AreStable vs
    read_lists_are_stable o vs e = walk_stable (length B) o vs e

-- ---- normal forms of a list

module _ {A : Type 0} (format : Format A) (laws : IsWritten format) where
  pub normals_are_writable : (vs : List A) → AllByRecursion format.Writable vs
      → AllByRecursion format.Writable (map format.normal vs)
  normals_are_writable [] w = tt
  normals_are_writable (v ∷ vs) w = ((laws.normal_form v w.0).writable, normals_are_writable vs w.1)

  pub normals_have_same_bytes : (vs : List A) → AllByRecursion format.Writable vs
      → stream format.bytes (map format.normal vs) ≡ stream format.bytes vs
  normals_have_same_bytes [] w = refl
  normals_have_same_bytes (v ∷ vs) w =
      ap (λ (xs : List ℕ). xs ++ stream format.bytes (map format.normal vs)) (laws.normal_form v w.0).same_bytes
      ∙ ap (λ (ys : List ℕ). format.bytes v ++ ys) (normals_have_same_bytes vs w.1)
