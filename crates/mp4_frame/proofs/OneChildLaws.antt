-- Laws of one child at an offset of a box, from the laws of the child. The child is read back, and its value keeps its
-- laws.
use Rattle.std.proofs.Common.{◌≡◌, ℕ, ◌+◌, ◌<◌, ◌^◌, Bool, true, false, cond, eqb, ltb, leb, List, ◌++◌, length, drop}
use Rattle.std.proofs.Common.{Ok, Option, Some, None, refl, ap, subst, ◌∙◌, arith}
use Rattle.std.specs.Prelude.{◌==◌, nat_lt}
use Rattle.std.proofs.lemmas.Bool.{le-leb, lt-ltb, le-ltb, eq-eqb}
use Rattle.std.proofs.lemmas.List.{drop_at}
use Rattle.mp4_frame.specs.BoxType.{code_of}
use Rattle.mp4_frame.specs.Format.{Format, IsBox}
use Rattle.mp4_frame.specs.Laws.{AreBytes}
use Rattle.mp4_frame.specs.OneChild.{child_head, child_content, any_child, named_child, content_if_named}
use Rattle.mp4_frame.specs.OneChild.{optional_child}
use Rattle.mp4_frame.specs.OptionalChild.{size_optional, WritableOptional, bytes_optional, normal_optional}
use Rattle.mp4_frame.specs.Reading.{Reading, ◌>>=◌, check, done}
use Rattle.mp4_frame.specs.declared.frame.Frame.{Frame}
use Rattle.mp4_frame.proofs.Checks.{check_ok, is_value, are_bytes-drop}
use Rattle.mp4_frame.proofs.Decided.{outcome_bind}
use Rattle.mp4_frame.proofs.Heads.{head_among}
use Rattle.mp4_frame.proofs.Tables.{value_first}

-- a value that was read is its own normal form, and can be written unless it is too large
abbrev pub IsStable : {A : Type 0} → Format A → A → Type 0
IsStable format v = (format.normal v ≡ v) × (format.size v < 2 ^ 32 → format.Writable v)

abbrev pub IsStableOptional : {A : Type 0} → Format A → Option A → Type 0
IsStableOptional format c =
    (normal_optional format c ≡ c) × (size_optional format c < 2 ^ 32 → WritableOptional format c)

module _ {A : Type 0} {reads : List ℕ → ℕ → ℕ → Reading A} {format : Format A} (laws : IsBox reads format) where
  module _ (code : ℕ) (coded : (v : A) → code_of (format.name v) ≡ code) (x : List ℕ) (k : ℕ)
      (long : length x ≡ k) where
    module _ (v : A) (w : format.Writable v) (rest : List ℕ) where
      head_back : child_head (x ++ (format.bytes v ++ rest)) (k + format.size v) k
          ≡ done (record { code = code; begin = k; start = k; size = format.size v })
      unfolding child_head
      head_back =
          let f = laws.header v w in
          let small : leb (format.size v) (k + format.size v) ≡ true =
          le-leb (format.size v) (k + format.size v) (omega arith) in
          rw (
            head_among x (format.bytes v) rest k (format.size v) code long f.long f.least f.size_first
                (f.code_next ∙ coded v),
            small,
          ) refl

      module _ (start : ℕ) (top : start + (k + format.size v) < 2 ^ 64) where
        content_back : (child_content reads (x ++ (format.bytes v ++ rest)) start
            (record { code = code; begin = k; start = k; size = format.size v })).outcome ≡ Ok (format.normal v)
        unfolding child_content
        content_back =
            let ends : ltb (start + k + format.size v) (2 ^ 64) ≡ true =
            lt-ltb (start + k + format.size v) (2 ^ 64) (omega arith) in
            let d : drop k (x ++ (format.bytes v ++ rest)) ≡ format.bytes v ++ rest =
            drop_at x (format.bytes v ++ rest) k long in
            rw (ends, d) (laws.read_back v w rest (start + k) (omega (arith, top)))

        -- a child after other bytes is read back
        pub any_back : (any_child reads (x ++ (format.bytes v ++ rest)) start (k + format.size v) k).outcome
            ≡ Ok (format.normal v)
        unfolding any_child
        any_back = rw head_back content_back

        pub named_back : (named_child reads code (x ++ (format.bytes v ++ rest)) start (k + format.size v) k).outcome
            ≡ Ok (format.normal v)
        unfolding named_child
        named_back =
            let same : eqb code code ≡ true = eq-eqb code code refl in
            rw (head_back, same) content_back

        some_back : (optional_child reads code (x ++ (format.bytes v ++ rest)) start (k + format.size v) k).outcome
            ≡ Ok (Some (format.normal v))
        unfolding optional_child
        some_back =
            let B = x ++ (format.bytes v ++ rest) in
            let more : ltb k (k + format.size v) ≡ true =
            lt-ltb k (k + format.size v) (omega (arith, (laws.header v w).least)) in
            let same : eqb code code ≡ true = eq-eqb code code refl in
            let c : Frame = record { code = code; begin = k; start = k; size = format.size v } in
            rw (more, head_back, same)
            (outcome_bind (child_content reads B start c) (λ v. done (Some v)) (format.normal v) _
            content_back refl)

    -- a child that the box may lack is read back
    pub optional_back : (c : Option A) → WritableOptional format c → (rest : List ℕ) (start : ℕ)
        → start + (k + size_optional format c) < 2 ^ 64
        → (optional_child reads code (x ++ (bytes_optional format c ++ rest)) start (k + size_optional format c)
        k).outcome ≡ Ok (normal_optional format c)
    unfolding optional_child
    optional_back (Some v) w rest start top = some_back v w rest start top
    optional_back None w rest start top =
        let none : ltb k (k + 0) ≡ false = le-ltb k (k + 0) (omega arith) in
        rw none refl

  module _ (input : List ℕ) (start : ℕ) (are : AreBytes input) where
    pub content_stable : (c : Frame) (v : A) → (child_content reads input start c).outcome ≡ Ok v → IsStable format v
    unfolding child_content
    content_stable c v e =
        let t = check_ok (nat_lt (start + c.start + c.size) (2 ^ 64))
        (λ _. reads (drop c.start input) (start + c.start) c.size) v e in
        laws.stable (drop c.start input) (start + c.start) c.size v (are_bytes-drop c.start input are) t.1

    module _ (long o : ℕ) where
      pub any_stable : (v : A) → (any_child reads input start long o).outcome ≡ Ok v → IsStable format v
      unfolding any_child
      any_stable v e =
          let p = value_first (child_head input long o) (λ c. child_content reads input start c) v e in
          content_stable p.0 v p.2

      pub named_stable : (code : ℕ) (v : A) → (named_child reads code input start long o).outcome ≡ Ok v
          → IsStable format v
      unfolding named_child
      named_stable code v e =
          let p = value_first (child_head input long o)
          (λ c. check (c.code == code) >>= λ _. child_content reads input start c) v e in
          content_stable p.0 v (check_ok (p.0.code == code) (λ _. child_content reads input start p.0) v p.2).1

      none_stable : (v : Option A) → (done None).outcome ≡ Ok v → IsStableOptional format v
      none_stable v e = subst (IsStableOptional format) (is_value None v e) (refl, λ small. tt)

      if_named_stable : (c : Frame) (b : Bool) (v : Option A)
          → (cond b (child_content reads input start c >>= λ v. done (Some v)) (done None)).outcome ≡ Ok v
          → IsStableOptional format v
      if_named_stable c true v e =
          let p = value_first (child_content reads input start c) (λ v. done (Some v)) v e in
          let is = content_stable c p.0 p.1 in
          subst (IsStableOptional format) (is_value (Some p.0) v p.2) (ap (λ (u : A). Some u) is.0, is.1)
      if_named_stable c false v e = none_stable v e

      if_more_stable : (code : ℕ) (b : Bool) (v : Option A)
          → (cond b (child_head input long o >>= λ c. content_if_named reads code input start c) (done None)).outcome
          ≡ Ok v → IsStableOptional format v
      if_more_stable code true v e =
          let p = value_first (child_head input long o) (λ c. content_if_named reads code input start c) v e in
          if_named_stable p.0 (p.0.code == code) v p.2
      if_more_stable code false v e = none_stable v e

      pub optional_stable : (code : ℕ) (v : Option A) → (optional_child reads code input start long o).outcome ≡ Ok v
          → IsStableOptional format v
      unfolding optional_child
      optional_stable code v e = if_more_stable code (nat_lt o long) v e
