-- A written child is read back.
use Rattle.std.proofs.Common.{◌≡◌, ℕ, zero, suc, ◌+◌, ◌-◌, ◌<◌, ◌≤◌, ◌^◌, Bool, true, false, cond, eqb, ltb, leb, List}
use Rattle.std.proofs.Common.{◌++◌, length, drop, Ok, Some, None, Result, Option, refl, ap, subst, ◌∙◌, arith}
use Rattle.std.specs.Prelude.{◌==◌, nat_le}
use Rattle.std.proofs.lemmas.Bool.{le-leb, lt-ltb, eq-eqb}
use Rattle.std.proofs.lemmas.List.{drop_at}
use Rattle.mp4_frame.specs.Bytes.{number, bytes_of_fields, width_of_fields}
use Rattle.mp4_frame.specs.Children.{child, child_if_named, last, children}
use Rattle.mp4_frame.specs.Reading.{Reading, Fault, ◌>>=◌, done}
use Rattle.mp4_frame.specs.declared.frame.Frame.{Frame}
use Rattle.mp4_frame.proofs.Fields.{length-fields}
use Rattle.mp4_frame.proofs.Heads.{head_among}
use Rattle.mp4_frame.proofs.Checks.{is_value, are_bytes-drop}
use Rattle.mp4_frame.proofs.Tables.{value_first}
use Rattle.mp4_frame.specs.Laws.{AreBytes}
use Rattle.mp4_frame.proofs.Chains.{children_first, children_none}
use Rattle.mp4_frame.proofs.Decided.{outcome_bind}

module _ {A : Type 0} (reads : List ℕ → ℕ → ℕ → Reading A) (code : ℕ) (cs : List (ℕ × ℕ)) (part rest : List ℕ)
    (start k m : ℕ) (v : A)
    (wide : width_of_fields cs ≡ k) (long : length part ≡ m) (least : 8 ≤ m) (most : m < 2 ^ 32)
    (top : start + (k + m) < 2 ^ 64)
    (size_first : number part 0 4 ≡ m) (code_next : number part 4 4 ≡ code)
    (back : (reads (part ++ rest) (start + k) m).outcome ≡ Ok v) where
  child_is : child (bytes_of_fields cs ++ (part ++ rest)) start (k + m) k
      ≡ done (record { code = code; begin = k; start = k; size = m })
  unfolding child
  child_is =
      let a : leb 8 m ≡ true = le-leb 8 m least in
      let b : leb m (k + m) ≡ true = le-leb m (k + m) (omega arith) in
      let c : ltb (start + k + m) (2 ^ 64) ≡ true = lt-ltb (start + k + m) (2 ^ 64) (omega arith) in
      let h = head_among (bytes_of_fields cs) part rest k m code (length-fields cs ∙ wide) long least size_first
      code_next in
      rw (h, a, b, c) refl

  -- the only child, after fields, is read back
  pub only_child : (n : ℕ) → 0 < n
      → (children reads code (bytes_of_fields cs ++ (part ++ rest)) start (k + m) n k).outcome ≡ Ok (Some v)
  only_child n more =
      let B = bytes_of_fields cs ++ (part ++ rest) in
      let lj : length (bytes_of_fields cs) ≡ k = length-fields cs ∙ wide in
      let d : drop k B ≡ part ++ rest = drop_at (bytes_of_fields cs) (part ++ rest) k lj in
      let read : (reads (drop k B) (start + k) m).outcome ≡ Ok v =
      ap (λ (xs : List ℕ). (reads xs (start + k) m).outcome) d ∙ back in
      let after = λ (c : Frame). child_if_named reads code B start c >>= λ mine.
      children reads code B start (k + m) (n - 1) (c.start + c.size) >>= λ later. done (last mine later) in
      let c : Frame = record { code = code; begin = k; start = k; size = m } in
      let same : eqb code code ≡ true = eq-eqb code code refl in
      let w : (child_if_named reads code B start c).outcome ≡ Ok (Some v) =
      ap (λ (b : Bool). (cond b (reads (drop k B) (start + k) m >>= λ v. done (Some v)) (done None)).outcome) same
      ∙ outcome_bind (reads (drop k B) (start + k) m) (λ v. done (Some v)) v (Ok (Some v)) read refl in
      let none : children reads code B start (k + m) (n - 1) (k + m) ≡ done None =
      children_none reads code B start (k + m) (n - 1) (k + m) (omega arith) in
      ap (λ (r : Reading (Option A)). r.outcome)
      (children_first reads code B start (k + m) n k more (omega (arith, least)))
      ∙ outcome_bind (child B start (k + m) k) after c (Ok (Some v)) (ap (λ (r : Reading Frame). r.outcome) child_is)
      (outcome_bind (child_if_named reads code B start c)
      (λ mine. children reads code B start (k + m) (n - 1) (k + m) >>= λ later. done (last mine later)) (Some v)
      (Ok (Some v)) w
      (ap (λ (r : Reading (Option A)). (r >>= λ later. done (last (Some v) later)).outcome) none))

-- a property of the value in a Some
abbrev pub ForSome : {A : Type 0} → (A → Type 0) → Option A → Type 0
ForSome P (Some v) = P v
ForSome P None = Unit {0}

last_of : {A : Type 0} (P : A → Type 0) (first second : Option A) → ForSome P first → ForSome P second
    → ForSome P (last first second)
last_of P first (Some v) h k = k
last_of P first None h k = h

abbrev pub ok_some : {A : Type 0} → Option A → Result (Option A) Fault
ok_some r = Ok r

module _ {A : Type 0} (reads : List ℕ → ℕ → ℕ → Reading A) (code : ℕ) (bytes : List ℕ) (start size : ℕ) (P : A → Type 0)
    (each : (part : List ℕ) (from long : ℕ) (v : A) → AreBytes part → (reads part from long).outcome ≡ Ok v → P v)
    (are : AreBytes bytes) where
  child_if_named_stable : (c : Frame) (b : Bool) (r : Option A)
      → (cond b (reads (drop c.start bytes) (start + c.start) c.size >>= λ v. done (Some v)) (done None)).outcome
      ≡ ok_some r → ForSome P r
  child_if_named_stable c true r e =
      let p = value_first (reads (drop c.start bytes) (start + c.start) c.size) (λ v. done (Some v)) r e in
      let is : Some p.0 ≡ r = is_value (Some p.0) r p.2 in
      subst (ForSome P) is
      (each (drop c.start bytes) (start + c.start) c.size p.0 (are_bytes-drop c.start bytes are) p.1)
  child_if_named_stable c false r e =
      let is : None ≡ r = is_value None r e in
      subst (ForSome P) is tt

  -- a property of every value that is read holds for the child that was found
  pub children_stable : (n o : ℕ) (r : Option A) → (children reads code bytes start size n o).outcome ≡ Ok r
      → ForSome P r
  unfolding children
  children_stable zero o r e = (let is : None ≡ r = is_value None r e in subst (ForSome P) is tt)
  children_stable (suc n) o r e = by (λ q s h. children_stable n q s h) (nat_le size o) e
    where
      by : ((q : ℕ) (s : Option A) → (children reads code bytes start size n q).outcome ≡ Ok s → ForSome P s)
          → (b : Bool) → (cond b (done None)
          (child bytes start size o >>= λ c. child_if_named reads code bytes start c >>= λ mine.
          children reads code bytes start size n (c.start + c.size) >>= λ later. done (last mine later))).outcome ≡ Ok r
          → ForSome P r
      by ih true h = (let is : None ≡ r = is_value None r h in subst (ForSome P) is tt)
      by ih false h =
          let c = value_first (child bytes start size o)
          (λ c. child_if_named reads code bytes start c >>= λ mine.
          children reads code bytes start size n (c.start + c.size) >>= λ later. done (last mine later)) r h in
          let m = value_first (child_if_named reads code bytes start c.0)
          (λ mine. children reads code bytes start size n (c.0.start + c.0.size) >>= λ later.
          done (last mine later)) r c.2 in
          let l = value_first (children reads code bytes start size n (c.0.start + c.0.size))
          (λ later. done (last m.0 later)) r m.2 in
          let is : last m.0 l.0 ≡ r = is_value (last m.0 l.0) r l.2 in
          subst (ForSome P) is
          (last_of P m.0 l.0 (child_if_named_stable c.0 (c.0.code == code) m.0 m.1)
          (ih (c.0.start + c.0.size) l.0 l.1))
