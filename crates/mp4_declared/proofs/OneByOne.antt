-- Entries that are read one after the other: those already read, and those still to be read.
use Rattle.std.proofs.Common.{◌≡◌, ℕ, zero, suc, ◌+◌, ◌-◌, ◌<◌, ◌≤◌, Bool, true, false, List, [], ◌∷◌, ◌++◌, Result, Ok}
use Rattle.std.proofs.Common.{Err, refl, sym, ap, subst, ◌∙◌, arith, append_assoc}
use Rattle.std.proofs.lemmas.List.{append-nil}
use Rattle.mp4_frame.specs.Reading.{Reading, Fault, ◌>>=◌, Refuses, done, also}
use Rattle.mp4_frame.specs.declared.error.Error.{Error}
use Rattle.mp4_frame.specs.declared.error.Error.TheVariants as errors
use Rattle.mp4_frame.proofs.Decided.{Decides, decides_same, decides_on, decides_bind, bind_decided, first_faults}
use Rattle.mp4_frame.proofs.Decided.{decided_fault}
use Rattle.mp4_declared.specs.Each.{one_by_one}
use Rattle.mp4_declared.specs.EachLaws.{later, first_and_later, none_counted, none_follow}

-- the entries already read, and then those that follow
abbrev pub continued : {X : Type 0} → List X → Reading (List X) → Reading (List X)
continued front r = r >>= λ xs. done (front ++ xs)

abbrev found : {X : Type 0} → List X → Result (List X) Fault
found xs = Ok xs

first_by : {X : Type 0} (a : Bool) (o : Result (List X) Fault)
    → continued [] (record { asks_memory = a; outcome = o }) ≡ record { asks_memory = a; outcome = o }
first_by true (Err k) = refl
first_by false (Err k) = refl
first_by true (Ok v) = refl
first_by false (Ok v) = refl

-- An entry that was read moves to the entries already read.
moved_by : {X : Type 0} (front : List X) (x : X) (a : Bool) (o : Result (List X) Fault)
    → Decides (continued (front ++ x ∷ []) (record { asks_memory = a; outcome = o }))
    (continued front (also true ((record { asks_memory = a; outcome = o }) >>= λ xs. done (x ∷ xs))))
moved_by front x a (Err k) = (refl, λ _. refl)
moved_by front x a (Ok xs) = (ap found (append_assoc front (x ∷ []) xs), λ _. refl)

module _ {X : Type 0} (follow : ℕ → Bool) (reads : ℕ → Reading X) (size : X → ℕ) where
  -- No entry is read yet.
  pub at_first : (front : List X) (n at : ℕ) → front ≡ []
      → Decides (continued front (one_by_one follow reads size n at)) (one_by_one follow reads size n at)
  at_first front n at none =
      let r = one_by_one follow reads size n at in
      decides_same _ _ (ap (λ (l : List X). continued l r) none ∙ first_by r.asks_memory r.outcome)

  begins : (n at : ℕ) → 0 < n → follow at ≡ true
      → one_by_one follow reads size n at ≡ (reads at >>= later follow reads size (n - 1) at)
  begins zero at some is = absurd (omega arith)
  begins (suc n) at some is =
      let less : n ≡ suc n - 1 = omega arith in
      first_and_later follow reads size n at is
      ∙ ap (λ (k : ℕ). reads at >>= later follow reads size k at) less

  module _ (front : List X) (n at : ℕ) (whole : Reading (List X)) (some : 0 < n) (is : follow at ≡ true)
      (told : Decides (continued front (one_by_one follow reads size n at)) whole) where
    begun : Decides (continued front (reads at >>= later follow reads size (n - 1) at)) whole
    begun = decides_on _ _ whole (decides_same _ _ (ap (continued front) (sym (begins n at some is)))) told

    -- The next entry has a fault.
    pub entry_faults : (e : Error) → Refuses e (reads at) → Refuses e whole
    entry_faults e h = decided_fault e _ whole begun
        (first_faults e _ _ (first_faults e (reads at) (later follow reads size (n - 1) at) h))

    -- The next entry is read, and then the call is out of memory.
    pub entry_is_not_kept : (e : Error) (x : X) → e ≡ errors.OutOfMemory → (reads at).outcome ≡ Ok x → Refuses e whole
    entry_is_not_kept e x is_memory read =
        let asked = (decides_bind (reads at) (later follow reads size (n - 1) at) x read).1 refl in
        subst (λ (y : Error). Refuses y whole) (sym is_memory)
        (decided_fault errors.OutOfMemory _ whole begun
        (first_faults errors.OutOfMemory (reads at >>= later follow reads size (n - 1) at)
        (λ xs. done (front ++ xs)) asked))

    -- The next entry is read.
    pub entry_is_read : (x : X) (next : List X) (k : ℕ) → (reads at).outcome ≡ Ok x → next ≡ front ++ x ∷ []
        → k ≡ at + size x → Decides (continued next (one_by_one follow reads size (n - 1) k)) whole
    entry_is_read x next k read next_is k_is =
        let r = one_by_one follow reads size (n - 1) (at + size x) in
        let one : Decides (continued front (later follow reads size (n - 1) at x)) whole =
        decides_on _ _ whole
        (bind_decided (later follow reads size (n - 1) at x) (reads at >>= later follow reads size (n - 1) at)
        (λ xs. done (front ++ xs)) (decides_bind (reads at) (later follow reads size (n - 1) at) x read)) begun in
        let here : continued next (one_by_one follow reads size (n - 1) k) ≡ continued (front ++ x ∷ []) r =
        rw (next_is, k_is) refl in
        decides_on _ _ whole (decides_same _ _ here)
        (decides_on _ _ whole (moved_by front x r.asks_memory r.outcome) one)

  all_read : (front : List X) (n at : ℕ) (whole : Reading (List X)) → one_by_one follow reads size n at ≡ done []
      → Decides (continued front (one_by_one follow reads size n at)) whole → whole.outcome ≡ Ok front
  all_read front n at whole none told =
      sym told.0 ∙ ap (λ (r : Reading (List X)). (continued front r).outcome) none
      ∙ ap found (append-nil front)

  -- All entries of the count are read.
  pub none_is_left : (front : List X) (n at : ℕ) (whole : Reading (List X)) → n ≤ 0
      → Decides (continued front (one_by_one follow reads size n at)) whole → whole.outcome ≡ Ok front
  none_is_left front n at whole none told =
      let zero_left : n ≡ 0 = omega arith in
      all_read front n at whole
      (ap (λ (k : ℕ). one_by_one follow reads size k at) zero_left ∙ none_counted follow reads size at) told

  -- No more entries follow.
  pub no_more_follow : (front : List X) (n at : ℕ) (whole : Reading (List X)) → follow at ≡ false
      → Decides (continued front (one_by_one follow reads size n at)) whole → whole.outcome ≡ Ok front
  no_more_follow front n at whole is told = all_read front n at whole (none_follow follow reads size n at is) told
