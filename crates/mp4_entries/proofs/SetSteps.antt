-- A list of sets, read set by set.
use Rattle.std.proofs.Common.{◌≡◌, ℕ, zero, suc, ◌+◌, ◌-◌, ◌<◌, ◌≤◌, true, false, List, [], ◌∷◌, ◌++◌, length, Result}
use Rattle.std.proofs.Common.{Ok, Err, refl, sym, ap, subst, ◌∙◌, arith, append_assoc}
use Rattle.std.proofs.lemmas.List.{append-nil}
use Rattle.mp4_frame.specs.Reading.{Reading, Fault, ◌>>=◌, Refuses, expect_bytes, piece_at, memory, done}
use Rattle.mp4_frame.specs.declared.error.Error.{Error}
use Rattle.mp4_frame.specs.declared.error.Error.TheVariants as errors
use Rattle.mp4_frame.specs.Bytes.{number}
use Rattle.mp4_frame.proofs.Tables.{value_first}
use Rattle.mp4_frame.proofs.Decided.{Decides, decides_same, decides_on, decides_bind, bind_decided, first_faults}
use Rattle.mp4_frame.proofs.Decided.{decided_fault}
use Rattle.mp4_entries.specs.Sets.{set_at, sets}
use Rattle.mp4_entries.specs.declared.nal_unit.NalUnit.{NalUnit}

-- the sets already read, and then those that follow
abbrev pub continued : List NalUnit → Reading (List NalUnit × ℕ) → Reading (List NalUnit × ℕ)
continued front r = r >>= λ later. done (front ++ later.0, later.1)

abbrev result_of : List NalUnit × ℕ → Result (List NalUnit × ℕ) Fault
result_of p = Ok p

first_by : (a : _) (o : Result (List NalUnit × ℕ) Fault)
    → continued [] (record { asks_memory = a; outcome = o }) ≡ record { asks_memory = a; outcome = o }
first_by true (Err k) = refl
first_by false (Err k) = refl
first_by true (Ok v) = refl
first_by false (Ok v) = refl

regroup_by : (front : List NalUnit) (mine : NalUnit) (a : _) (o : Result (List NalUnit × ℕ) Fault)
    → continued (front ++ mine ∷ []) (record { asks_memory = a; outcome = o })
    ≡ continued front ((record { asks_memory = a; outcome = o }) >>= λ later. done (mine ∷ later.0, later.1))
regroup_by front mine true (Err k) = refl
regroup_by front mine false (Err k) = refl
regroup_by front mine true (Ok v) =
    ap (λ (l : List NalUnit). record { asks_memory = true; outcome = result_of (l, v.1) })
    (append_assoc front (mine ∷ []) v.0)
regroup_by front mine false (Ok v) =
    ap (λ (l : List NalUnit). record { asks_memory = false; outcome = result_of (l, v.1) })
    (append_assoc front (mine ∷ []) v.0)

module _ (bytes : List ℕ) where
  -- No set is read yet.
  pub at_first : (front : List NalUnit) (n o : ℕ) → front ≡ []
      → Decides (continued front (sets bytes n o)) (sets bytes n o)
  at_first front n o none = let r =
      sets bytes n o in decides_same _ _
      (ap (λ (l : List NalUnit). continued l r) none ∙ first_by r.asks_memory r.outcome)

  -- Memory is asked for after a check that the whole set is present.
  set_asked : (o : ℕ) (mine : NalUnit) → (set_at bytes o).outcome ≡ Ok mine → (set_at bytes o).asks_memory ≡ true
  unfolding set_at
  set_asked o mine e =
      let last = λ (found : List ℕ). memory >>= λ _. done (record { bytes = found }) in
      let piece = piece_at bytes (o + 2) (number bytes o 2) in
      let p = value_first (expect_bytes bytes o 2) (λ _. piece >>= last) mine e in
      let q = value_first piece last mine p.2 in
      (decides_bind (expect_bytes bytes o 2) (λ _. piece >>= last) p.0 p.1).1 ((decides_bind piece last q.0 q.1).1 refl)

  after : ℕ → ℕ → NalUnit → Reading (List NalUnit × ℕ)
  after n o first = sets bytes n (o + 2 + length first.bytes) >>= λ later. done (first ∷ later.0, later.1)

  sets_first : (n o : ℕ) → 0 < n → sets bytes n o ≡ (set_at bytes o >>= after (n - 1) o)
  unfolding sets after
  sets_first zero o more = absurd (omega arith)
  sets_first (suc n) o more = let less : suc n - 1 ≡ n = omega arith in rw less refl

  module _ (front : List NalUnit) (n o : ℕ) (whole : Reading (List NalUnit × ℕ)) (more : 0 < n)
      (told : Decides (continued front (sets bytes n o)) whole) where
    begun : Decides (continued front (set_at bytes o >>= after (n - 1) o)) whole
    begun = decides_on _ _ whole (decides_same _ _ (ap (continued front) (sym (sets_first n o more)))) told

    -- The next set has a fault.
    pub set_faults : (e : Error) → Refuses e (set_at bytes o) → Refuses e whole
    set_faults e h = decided_fault e _ whole begun (first_faults e _ _ (first_faults e _ (after (n - 1) o) h))

    -- The next set is read, and then the call is out of memory.
    pub set_out_of_memory : (e : Error) (mine : NalUnit) → e ≡ errors.OutOfMemory → (set_at bytes o).outcome ≡ Ok mine
        → Refuses e whole
    set_out_of_memory e mine is h =
        set_faults e (subst (λ (x : Error). Refuses x (set_at bytes o)) (sym is) (set_asked o mine h))

    -- The next set is read.
    pub set_read : (mine : NalUnit) (next : List NalUnit) (k : ℕ) → (set_at bytes o).outcome ≡ Ok mine
        → next ≡ front ++ mine ∷ [] → k ≡ o + 2 + length mine.bytes
        → Decides (continued next (sets bytes (n - 1) k)) whole
    unfolding after
    set_read mine next k is next_is k_is =
        let rest = sets bytes (n - 1) (o + 2 + length mine.bytes) in
        let one : Decides (continued front (after (n - 1) o mine)) whole =
        decides_on _ _ whole
        (bind_decided (after (n - 1) o mine) (set_at bytes o >>= after (n - 1) o)
        (λ later. done (front ++ later.0, later.1))
        (decides_bind (set_at bytes o) (after (n - 1) o) mine is)) begun in
        let here : continued next (sets bytes (n - 1) k) ≡ continued (front ++ mine ∷ []) rest =
        rw (next_is, k_is) refl in
        decides_on _ _ whole (decides_same _ _ (here ∙ regroup_by front mine rest.asks_memory rest.outcome)) one

  sets_none : (o : ℕ) → sets bytes 0 o ≡ done ([], o)
  unfolding sets
  sets_none o = refl

  -- No set is left to read.
  pub sets_read : (front : List NalUnit) (n o : ℕ) (whole : Reading (List NalUnit × ℕ)) → n ≤ 0
      → Decides (continued front (sets bytes n o)) whole → whole.outcome ≡ Ok (front, o)
  sets_read front n o whole none told =
      let zero_left : n ≡ 0 = omega arith in
      sym told.0 ∙ ap (λ (k : ℕ). (continued front (sets bytes k o)).outcome) zero_left
      ∙ ap (λ (r : Reading (List NalUnit × ℕ)). (continued front r).outcome) (sets_none o)
      ∙ ap (λ (l : List NalUnit). result_of (l, o)) (append-nil front)
