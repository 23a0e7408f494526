-- Children of a box, read one after the other.
use Rattle.std.proofs.Common.{◌≡◌, ℕ, zero, suc, ◌+◌, ◌-◌, ◌<◌, ◌≤◌, Bool, true, false, cond, List, drop, Result, Ok}
use Rattle.std.proofs.Common.{Err, Option, Some, None, refl, sym, ap, subst, ◌∙◌, arith}
use Rattle.std.proofs.lemmas.Bool.{le-leb, lt-leb, eq-eqb, ne_eqb}
use Rattle.mp4_frame.specs.Children.{child, child_if_named, last, children}
use Rattle.mp4_frame.specs.Reading.{Reading, Fault, ◌>>=◌, Refuses, done, and_then}
use Rattle.mp4_frame.specs.declared.frame.Frame.{Frame}
use Rattle.mp4_frame.specs.declared.error.Error.{Error}
use Rattle.mp4_frame.proofs.Decided.{Decides, decides_same, decides_on, decides_bind, bind_decided, first_faults}
use Rattle.mp4_frame.proofs.Decided.{decided_fault}

-- the outcome of the children, from the last child found and the reading of the remaining children
abbrev pub continue_with : {A : Type 0} → Option A → Reading (Option A) → Reading (Option A)
continue_with found r = r >>= λ later. done (last found later)

regroup_by : {A : Type 0} (found mine : Option A) (a : Bool) (o : Result (Option A) Fault)
    → continue_with (last found mine) (record { asks_memory = a; outcome = o })
    ≡ continue_with found ((record { asks_memory = a; outcome = o }) >>= λ later. done (last mine later))
regroup_by found mine true (Err k) = refl
regroup_by found mine false (Err k) = refl
regroup_by found mine true (Ok (Some v)) = refl
regroup_by found mine false (Ok (Some v)) = refl
regroup_by found mine true (Ok None) = refl
regroup_by found mine false (Ok None) = refl

first_by : {A : Type 0} (a : Bool) (o : Result (Option A) Fault)
    → continue_with None (record { asks_memory = a; outcome = o }) ≡ record { asks_memory = a; outcome = o }
first_by true (Err k) = refl
first_by false (Err k) = refl
first_by true (Ok (Some v)) = refl
first_by false (Ok (Some v)) = refl
first_by true (Ok None) = refl
first_by false (Ok None) = refl

module _ {A : Type 0} (reads : List ℕ → ℕ → ℕ → Reading A) (code : ℕ) (bytes : List ℕ) (start size : ℕ) where
  -- before the first child is read
  pub at_first : (n o : ℕ)
      → Decides (continue_with None (children reads code bytes start size n o))
      (children reads code bytes start size n o)
  at_first n o = let r = children reads code bytes start size n o in decides_same _ _ (first_by r.asks_memory r.outcome)

  rest_of : ℕ → Frame → Option A → Reading (Option A)
  rest_of n c mine = children reads code bytes start size n (c.start + c.size) >>= λ later. done (last mine later)

  pub children_first : (n o : ℕ) → 0 < n → o < size
      → children reads code bytes start size n o
      ≡ (child bytes start size o >>= λ c. child_if_named reads code bytes start c >>= λ mine.
      children reads code bytes start size (n - 1) (c.start + c.size) >>= λ later. done (last mine later))
  unfolding children
  children_first zero o more before = absurd (omega arith)
  children_first (suc n) o more before =
      let less : suc n - 1 ≡ n = omega arith in
      rw less (ap (λ (b : Bool).
      cond b (done None) (child bytes start size o >>= λ c. child_if_named reads code bytes start c >>= λ mine.
      children reads code bytes start size n (c.start + c.size) >>= λ later.
      done (last mine later))) (lt-leb size o before))

  pub children_none : (n o : ℕ) → size ≤ o → children reads code bytes start size n o ≡ done None
  unfolding children
  children_none zero o le = refl
  children_none (suc n) o le =
      ap (λ (b : Bool). cond b (done None)
      (child bytes start size o >>= λ c. child_if_named reads code bytes start c >>= λ mine.
      children reads code bytes start size n (c.start + c.size) >>= λ later. done (last mine later))) (le-leb size o le)

  pub children_zero : (o : ℕ) → children reads code bytes start size 0 o ≡ done None
  unfolding children
  children_zero o = refl

  module _ (found : Option A) (n o : ℕ) (whole : Reading (Option A)) (more : 0 < n) (before : o < size)
      (told : Decides (continue_with found (children reads code bytes start size n o)) whole) where
    after : Frame → Reading (Option A)
    after c = child_if_named reads code bytes start c >>= λ mine.
        children reads code bytes start size (n - 1) (c.start + c.size) >>= λ later. done (last mine later)

    begun : Decides (continue_with found (child bytes start size o >>= after)) whole
    unfolding after
    begun = decides_on _ _ whole
        (decides_same _ _ (ap (continue_with found) (sym (children_first n o more before)))) told

    -- the head of a child faults
    pub head_faults : (e : Error) → Refuses e (child bytes start size o) → Refuses e whole
    head_faults e h = decided_fault e _ whole begun (first_faults e _ _ (first_faults e _ after h))

    module _ (c : Frame) (is : (child bytes start size o).outcome ≡ Ok c) where
      after_head : Decides (continue_with found (after c)) whole
      after_head = decides_on _ _ whole
          (bind_decided (after c) (child bytes start size o >>= after) (λ later. done (last found later))
          (decides_bind (child bytes start size o) after c is)) begun

      -- the child itself faults
      pub child_faults : (e : Error) → Refuses e (child_if_named reads code bytes start c) → Refuses e whole
      unfolding after
      child_faults e h = decided_fault e _ whole after_head (first_faults e _ _ (first_faults e _ _ h))

      -- the child is read, or skipped
      pub next : (mine : Option A) → (child_if_named reads code bytes start c).outcome ≡ Ok mine
          → Decides (continue_with (last found mine) (children reads code bytes start size (n - 1) (c.start + c.size)))
          whole
      unfolding after
      next mine e =
          let rest = children reads code bytes start size (n - 1) (c.start + c.size) in
          let one : Decides (continue_with found (rest >>= λ later. done (last mine later))) whole =
          decides_on _ _ whole
          (bind_decided _ _ (λ later. done (last found later))
          (decides_bind (child_if_named reads code bytes start c) (λ mine. rest >>= λ later. done (last mine later))
          mine e)) after_head in
          decides_on _ _ whole (decides_same _ _ (regroup_by found mine rest.asks_memory rest.outcome)) one

      is_named_child : c.code ≡ code
          → child_if_named reads code bytes start c
          ≡ (reads (drop c.start bytes) (start + c.start) c.size >>= λ v. done (Some v))
      is_named_child e = ap
          (λ (b : Bool). cond b (reads (drop c.start bytes) (start + c.start) c.size >>= λ v. done (Some v))
          (done None)) (eq-eqb c.code code e)

      is_other : (c.code ≡ code → ⊥) → child_if_named reads code bytes start c ≡ done None
      is_other e = ap (λ (b : Bool).
          cond b (reads (drop c.start bytes) (start + c.start) c.size >>= λ v. done (Some v)) (done None))
          (ne_eqb c.code code e)

      -- a child with the code faults
      pub named_child_faults : (rest : List ℕ) → rest ≡ drop c.start bytes → c.code ≡ code → (e : Error)
          → Refuses e (reads rest (start + c.start) c.size) → Refuses e whole
      named_child_faults rest here is_code e h =
          let there : Refuses e (reads (drop c.start bytes) (start + c.start) c.size) =
          subst (λ (xs : List ℕ). Refuses e (reads xs (start + c.start) c.size)) here h in
          child_faults e (decided_fault e _ _ (decides_same _ _ (sym (is_named_child is_code)))
          (first_faults e _ _ there))

      -- a child with the code is read
      pub kept : (rest : List ℕ) → rest ≡ drop c.start bytes → c.code ≡ code → (v : A)
          → (reads rest (start + c.start) c.size).outcome ≡ Ok v
          → Decides (continue_with (Some v) (children reads code bytes start size (n - 1) (c.start + c.size))) whole
      kept rest here is_code v e =
          let there : (reads (drop c.start bytes) (start + c.start) c.size).outcome ≡ Ok v =
          ap (λ (xs : List ℕ). (reads xs (start + c.start) c.size).outcome) (sym here) ∙ e in
          next (Some v) (ap (λ (r : Reading (Option A)). r.outcome) (is_named_child is_code)
          ∙ ap (λ (o : Result A Fault).
          (and_then (reads (drop c.start bytes) (start + c.start) c.size).asks_memory o
          (λ v. done (Some v))).outcome) there)

      -- a child with another code is skipped
      pub skipped : (c.code ≡ code → ⊥)
          → Decides (continue_with found (children reads code bytes start size (n - 1) (c.start + c.size))) whole
      skipped other = next None (ap (λ (r : Reading (Option A)). r.outcome) (is_other other))

  -- no child is left
  pub all_read : (found : Option A) (n o : ℕ) (whole : Reading (Option A)) → size ≤ o
      → Decides (continue_with found (children reads code bytes start size n o)) whole → whole.outcome ≡ Ok found
  all_read found n o whole le told =
      sym told.0 ∙ ap (λ (r : Reading (Option A)). (continue_with found r).outcome) (children_none n o le)

  pub count_is_out : (found : Option A) (n o : ℕ) (whole : Reading (Option A)) → n ≤ 0
      → Decides (continue_with found (children reads code bytes start size n o)) whole → whole.outcome ≡ Ok found
  count_is_out found n o whole none told =
      let zero_left : n ≡ 0 = omega arith in
      sym told.0 ∙ ap (λ (k : ℕ). (continue_with found (children reads code bytes start size k o)).outcome) zero_left
      ∙ ap (λ (r : Reading (Option A)). (continue_with found r).outcome) (children_zero o)
