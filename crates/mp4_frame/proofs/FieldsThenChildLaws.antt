-- Laws of a box of fields followed by one child, which the box always has or may lack. They follow from the laws of the
-- child.
use Rattle.std.proofs.Common.{◌≡◌, ℕ, ◌+◌, ◌<◌, ◌≤◌, ◌^◌, List, ◌++◌, length, Ok, Option, Some, None, sym, ap, subst}
use Rattle.std.proofs.Common.{◌∙◌, arith, append_assoc}
use Rattle.mp4_frame.specs.Bytes.{number, bytes_of_fields, width_of_fields, FieldsFit}
use Rattle.mp4_frame.specs.Children.{children}
use Rattle.mp4_frame.specs.Format.{Format, IsBox}
use Rattle.mp4_frame.specs.Laws.{AreBytes, Normal}
use Rattle.mp4_frame.specs.OptionalChild.{size_optional, WritableOptional, bytes_optional, normal_optional}
use Rattle.mp4_frame.specs.FieldsThenChild.{WritableParent, required}
use Rattle.mp4_frame.specs.Reading.{Reading, ◌>>=◌, expect_bytes, done}
use Rattle.mp4_frame.specs.declared.box_type.BoxType.{BoxType}
use Rattle.mp4_frame.proofs.ChildLaws as child_laws
use Rattle.mp4_frame.proofs.Checks.{expect_bytes_ok, is_value}
use Rattle.mp4_frame.proofs.Decided.{outcome_bind}
use Rattle.mp4_frame.proofs.Fields.{found, numbers-fields, expect_bytes-fields}
use Rattle.mp4_frame.proofs.Tables.{value_first}

-- the facts that a box needs about its child, or about a child that it may lack
pub record IsPart {C : Type 0} (size : C → ℕ) (Writable : C → Type 0) (bytes : C → List ℕ)
    (normal : C → C) : Type 0 where
  pub long : (c : C) → Writable c → length (bytes c) ≡ size c
  pub normal_form : (c : C) → Writable c → Normal Writable bytes normal c

module _ {A : Type 0} {reads : List ℕ → ℕ → ℕ → Reading A} {format : Format A} (laws : IsBox reads format) where
  pub one_part : IsPart format.size format.Writable format.bytes format.normal
  one_part = record { long = λ v w. (laws.header v w).long; normal_form = laws.normal_form }

  pub optional_part : IsPart (size_optional format) (WritableOptional format) (bytes_optional format)
      (normal_optional format)
  optional_part = record {
    long = child_laws.optional_long laws;
    normal_form = λ c w. record {
      writable = child_laws.optional_writable laws c w;
      again = child_laws.optional_again laws c w;
      same_bytes = child_laws.optional_bytes laws c w;
    };
  }

  required_by : (name : BoxType) (c : Option A) (v : A) → (required name c).outcome ≡ Ok v
      → (normal_optional format c ≡ c) × (size_optional format c < 2 ^ 32 → WritableOptional format c)
      → (format.normal v ≡ v) × (format.size v < 2 ^ 32 → format.Writable v)
  required_by name (Some u) v e is =
      let same : format.normal u ≡ u = cc (is.0) in
      subst (λ (x : A). (format.normal x ≡ x) × (format.size x < 2 ^ 32 → format.Writable x)) (is_value u v e)
      (same, is.1)
  required_by name None v e is = absurd cc

  -- a required child among the children: its value keeps its laws
  pub required_stable : (code : ℕ) (name : BoxType) (input : List ℕ) (start long n o : ℕ) → AreBytes input → (v : A)
      → (children reads code input start long n o >>= required name).outcome ≡ Ok v
      → (format.normal v ≡ v) × (format.size v < 2 ^ 32 → format.Writable v)
  required_stable code name input start long n o are v e =
      let p = value_first (children reads code input start long n o) (required name) v e in
      required_by name p.0 v p.2 (child_laws.optional_stable laws code input start long n o p.0 are p.1)

-- a reading of fields, whose w bytes at o must be present, then of the child, and then the value
abbrev pub fields_and_child : {C P : Type 0} (o w : ℕ) (inner : List ℕ → ℕ → ℕ → Reading C)
    (value : (ℕ → ℕ → ℕ) → C → P) → List ℕ → ℕ → ℕ → Reading P
fields_and_child o w inner value bytes start size = expect_bytes bytes o w >>= λ _. inner bytes start size >>= λ c.
    done (value (number bytes) c)

-- the value of the box is that of its numbers and of its child's value
pub parent_is : {C P : Type 0} (o w : ℕ) (inner : List ℕ → ℕ → ℕ → Reading C) (value : (ℕ → ℕ → ℕ) → C → P) (B : List ℕ)
    (start long : ℕ) (v : P) → (fields_and_child o w inner value B start long).outcome ≡ Ok v
    → (c : C) × ((inner B start long).outcome ≡ Ok c) × (value (number B) c ≡ v)
parent_is {C} o w inner value B start long v e =
    let last = λ (c : C). done (value (number B) c) in
    let p = value_first (inner B start long) last v (expect_bytes_ok B o w (λ _. inner B start long >>= last) v e) in
    (p.0, p.1, is_value (value (number B) p.0) v p.2)

-- The laws of a box P with a child C. `with_child p c` is p with the child c.
module _ {C P : Type 0} {size : C → ℕ} {Writable : C → Type 0} {bytes : C → List ℕ} {normal : C → C}
    (part : IsPart size Writable bytes normal)
    (fields : P → List (ℕ × ℕ)) (child : P → C) (with_child : P → C → P) where
  abbrev WritableBox : P → Type 0
  WritableBox p = WritableParent Writable (fields p) (child p)

  abbrev bytes_box : P → List ℕ
  bytes_box p = bytes_of_fields (fields p) ++ bytes (child p)

  abbrev normal_box : P → P
  normal_box p = with_child p (normal (child p))

  -- the child's normal form has the same size
  pub same_size : (c : C) → Writable c → size (normal c) ≡ size c
  same_size c w =
      let n = part.normal_form c w in
      sym (part.long (normal c) n.writable) ∙ ap length n.same_bytes ∙ part.long c w

  pub parent_normal_form : ((p : P) (c : C) → child (with_child p c) ≡ c)
      → ((p : P) (c d : C) → with_child (with_child p c) d ≡ with_child p d)
      → (p : P) → fields (normal_box p) ≡ fields p → WritableBox p → Normal WritableBox bytes_box normal_box p
  parent_normal_form own over p same w =
      let n = part.normal_form (child p) w.child in
      let q = normal_box p in
      let mine : child q ≡ normal (child p) = own p (normal (child p)) in
      record {
        writable = record { fit = subst FieldsFit (sym same) w.fit; child = subst Writable (sym mine) n.writable };
        again = over p (normal (child p)) (normal (child q)) ∙ ap (with_child p) (ap normal mine ∙ n.again);
        same_bytes = ap (λ (cs : List (ℕ × ℕ)). bytes_of_fields cs ++ bytes (child q)) same
            ∙ ap (λ (xs : List ℕ). bytes_of_fields (fields p) ++ xs) (ap bytes mine ∙ n.same_bytes);
      }

  module _ (o w : ℕ) (inner : List ℕ → ℕ → ℕ → Reading C) (value : (ℕ → ℕ → ℕ) → C → P) where
    -- the box is read back if its child is
    pub parent_back : (p : P) (rest : List ℕ) (start long : ℕ) → FieldsFit (fields p)
        → o + w ≤ width_of_fields (fields p)
        → (inner (bytes_of_fields (fields p) ++ (bytes (child p) ++ rest)) start long).outcome ≡ Ok (normal (child p))
        → value (found (fields p) (bytes (child p) ++ rest)) (normal (child p)) ≡ normal_box p
        → (fields_and_child o w inner value (bytes_box p ++ rest) start long).outcome ≡ Ok (normal_box p)
    parent_back p rest start long fits room back e =
        let cs = fields p in
        let tail = bytes (child p) ++ rest in
        let B = bytes_of_fields cs ++ tail in
        let last = λ (c : C). done (value (number B) c) in
        ap (λ (l : List ℕ). (fields_and_child o w inner value l start long).outcome)
        (append_assoc (bytes_of_fields cs) (bytes (child p)) rest)
        ∙ outcome_bind (expect_bytes B o w) (λ _. inner B start long >>= last) tt _
        (ap (λ (r : Reading (Unit {0})). r.outcome) (expect_bytes-fields cs tail o w room))
        (outcome_bind (inner B start long) last (normal (child p)) _ back
        (ap (λ (n : ℕ → ℕ → ℕ). Ok (value n (normal (child p)))) (numbers-fields cs tail fits)
        ∙ ap (λ (q : P). Ok q) e))

    -- the value of the box keeps its laws if the value of its child does
    pub parent_stable : ((n : ℕ → ℕ → ℕ) (c : C) → child (value n c) ≡ c)
        → ((n : ℕ → ℕ → ℕ) (c d : C) → with_child (value n c) d ≡ value n d)
        → (size_box : P → ℕ) → ((p : P) → size (child p) ≤ size_box p) → (B : List ℕ) (start long : ℕ) (v : P)
        → (fields_and_child o w inner value B start long).outcome ≡ Ok v
        → ((c : C) → (inner B start long).outcome ≡ Ok c → (normal c ≡ c) × (size c < 2 ^ 32 → Writable c))
        → ((c : C) → size_box (value (number B) c) < 2 ^ 32 → FieldsFit (fields (value (number B) c)))
        → (normal_box v ≡ v) × (size_box v < 2 ^ 32 → WritableBox v)
    parent_stable own over size_box least B start long v e stable fits =
        let p = parent_is o w inner value B start long v e in
        let c = p.0 in
        let is = stable c p.1 in
        let made : P = value (number B) c in
        let mine : child made ≡ c = own (number B) c in
        let own_normal_form : normal_box made ≡ made = over (number B) c (normal (child made))
        ∙ ap (value (number B)) (ap normal mine ∙ is.0) in
        let can : size_box made < 2 ^ 32 → WritableBox made = λ small. record {
          fit = fits c small;
          child = subst Writable (sym mine) (is.1 (omega (arith, small, least made, ap size mine)));
        } in
        subst (λ (x : P). (normal_box x ≡ x) × (size_box x < 2 ^ 32 → WritableBox x)) p.2 (own_normal_form, can)
