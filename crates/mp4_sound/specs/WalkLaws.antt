-- The laws of walks over descriptors: what is written is walked over, and what is found keeps its laws.
use Rattle.std.proofs.Common.{◌≡◌, ℕ, zero, suc, ◌+◌, ◌-◌, ◌%◌, ◌<◌, ◌≤◌, Bool, true, false, cond, leb, List, length}
use Rattle.std.proofs.Common.{Result, Ok, Err, Option, Some, None, refl, ap, ◌∙◌, arith}
use Rattle.std.proofs.lemmas.Bool.{lt-ltb, le-leb, lt-leb}
use Rattle.mp4_frame.specs.Bytes.{number}
use Rattle.mp4_frame.specs.Children.{last}
use Rattle.mp4_frame.specs.Reading.{Reading, Fault}
use Rattle.mp4_frame.proofs.Checks.{expect_bytes_present}
use Rattle.mp4_sound.specs.Counted.{Counted, ◌>>=◌, one_header, no_header, value, outcome_after}
use Rattle.mp4_sound.specs.DecoderSpecificLaws.{ForSome, Kept}
use Rattle.mp4_sound.specs.DescriptorHeader.{descriptor_header}
use Rattle.mp4_sound.specs.Walk.{walk}
use Rattle.mp4_sound.specs.declared.descriptor_header.DescriptorHeader.{DescriptorHeader}

-- A header of two bytes is read.
pub header_back : (bytes : List ℕ) (o tag long : ℕ) → o + 2 ≤ length bytes → number bytes o 1 ≡ tag
    → number bytes (o + 1) 1 ≡ long → long < 128
    → (descriptor_header bytes o).outcome ≡ Ok (record { tag = tag; length = long; content = o + 2 })
unfolding descriptor_header
header_back bytes o tag long room is_tag is_long short =
    let low : long % 128 ≡ long = omega (arith, short) in
    rw (expect_bytes_present bytes o 2 room, is_tag, is_long, lt-ltb long 128 short, low) refl

abbrev pub ok_counted : {A : Type 0} → A → Result A Fault
ok_counted x = Ok x

-- If a reading ends with a value, its first part has a value.
pub first_ok : {A B : Type 0} (o : Result A Fault) (f : A → Counted B) (y : B) → outcome_after o f ≡ Ok y
    → (x : A) × (o ≡ Ok x) × ((f x).outcome ≡ Ok y)
first_ok (Ok x) f y e = (x, refl, e)
first_ok (Err k) f y e = absurd cc

-- the outcome after a part that has a value
pub next_ok : {A B : Type 0} (r : Counted A) (f : A → Counted B) (x : A) (o : Result B Fault) → r.outcome ≡ Ok x
    → (f x).outcome ≡ o → (r >>= f).outcome ≡ o
next_ok r f x o e h = ap (λ (p : Result _ Fault). outcome_after p f) e ∙ h

-- fields, and a walk after them
abbrev pub framed : {X Y : Type 0} → Reading (Unit {0}) → Counted X → (X → Y) → Counted Y
framed u r f = no_header u >>= λ _. r >>= λ inner. value (f inner)

pub framed_value : {X Y : Type 0} (u : Reading (Unit {0})) (r : Counted X) (f : X → Y) (x : X) → u.outcome ≡ Ok tt
    → r.outcome ≡ Ok x → (framed u r f).outcome ≡ Ok (f x)
framed_value u r f x e h =
    ap (λ (o : Result (Unit {0}) Fault). outcome_after o (λ _. r >>= λ inner. value (f inner))) e
    ∙ ap (λ (o : Result _ Fault). outcome_after o (λ inner. value (f inner))) h

module _ {A : Type 0} (content : List ℕ → ℕ → DescriptorHeader → Counted (Option A × ℕ)) (bytes : List ℕ)
    (bound : ℕ) where
  pub walk_first : (n o : ℕ) → 0 < n → o < bound
      → walk content bytes bound n o
      ≡ (one_header (descriptor_header bytes o) >>= λ d. content bytes bound d >>= λ mine.
      walk content bytes bound (n - 1) mine.1 >>= λ later. value (last mine.0 later.0, later.1))
  unfolding walk
  walk_first zero o more before = absurd (omega arith)
  walk_first (suc n) o more before =
      let less : suc n - 1 ≡ n = omega arith in
      rw less (ap (λ (b : Bool).
      cond b (value (None, o))
      (one_header (descriptor_header bytes o) >>= λ d. content bytes bound d >>= λ mine.
      walk content bytes bound n mine.1 >>= λ later. value (last mine.0 later.0, later.1))) (lt-leb bound o before))

  pub walk_none : (n o : ℕ) → bound ≤ o → walk content bytes bound n o ≡ value (None, o)
  unfolding walk
  walk_none zero o le = refl
  walk_none (suc n) o le =
      ap (λ (b : Bool). cond b (value (None, o))
      (one_header (descriptor_header bytes o) >>= λ d. content bytes bound d >>= λ mine.
      walk content bytes bound n mine.1 >>= λ later. value (last mine.0 later.0, later.1))) (le-leb bound o le)

  pub walk_zero : (n o : ℕ) → n ≤ 0 → walk content bytes bound n o ≡ value (None, o)
  unfolding walk
  walk_zero zero o le = refl
  walk_zero (suc n) o le = absurd (omega arith)

  after : ℕ → Option A × ℕ → Counted (Option A × ℕ)
  after n mine = walk content bytes bound n mine.1 >>= λ later. value (last mine.0 later.0, later.1)

  -- one descriptor, and then the walk from the end of its content
  pub walk_on : (n o : ℕ) (d : DescriptorHeader) (mine later : Option A × ℕ) → 0 < n → o < bound
      → (descriptor_header bytes o).outcome ≡ Ok d → (content bytes bound d).outcome ≡ Ok mine
      → (walk content bytes bound (n - 1) mine.1).outcome ≡ Ok later
      → (walk content bytes bound n o).outcome ≡ Ok (last mine.0 later.0, later.1)
  unfolding after
  walk_on n o d mine later more before is_header is_mine is_later =
      ap (λ (r : Counted (Option A × ℕ)). r.outcome) (walk_first n o more before)
      ∙ next_ok (one_header (descriptor_header bytes o)) (λ d. content bytes bound d >>= after (n - 1)) d _ is_header
      (next_ok (content bytes bound d) (after (n - 1)) mine _ is_mine
      (next_ok (walk content bytes bound (n - 1) mine.1) (λ later. value (last mine.0 later.0, later.1)) later _
      is_later refl))

  module _ (P : A → Type 0) (each : (d : DescriptorHeader) → Kept P (content bytes bound d).outcome) where
    last_kept : (mine later : Option A) → ForSome P mine → ForSome P later → ForSome P (last mine later)
    last_kept mine (Some v) p q = q
    last_kept mine None p q = p

    later_kept : (mine : Option A × ℕ) (o : Result (Option A × ℕ) Fault) → ForSome P mine.0 → Kept P o
        → Kept P (outcome_after o (λ later. value (last mine.0 later.0, later.1)))
    later_kept mine (Ok later) p q = last_kept mine.0 later.0 p q
    later_kept mine (Err k) p q = tt

    content_kept : (n : ℕ) (o : Result (Option A × ℕ) Fault) → Kept P o
        → ((m : ℕ) → Kept P (walk content bytes bound n m).outcome) → Kept P (outcome_after o (after n))
    unfolding after
    content_kept n (Ok mine) p q = later_kept mine (walk content bytes bound n mine.1).outcome p (q mine.1)
    content_kept n (Err k) p q = tt

    header_kept : (n : ℕ) (o : Result DescriptorHeader Fault)
        → ((m : ℕ) → Kept P (walk content bytes bound n m).outcome)
        → Kept P (outcome_after o (λ d. content bytes bound d >>= after n))
    header_kept n (Ok d) q = content_kept n (content bytes bound d).outcome (each d) q
    header_kept n (Err k) q = tt

    bound_kept : (n o : ℕ) (b : Bool) → ((m : ℕ) → Kept P (walk content bytes bound n m).outcome)
        → Kept P (cond b (value (None, o))
        (one_header (descriptor_header bytes o) >>= λ d. content bytes bound d >>= after n)).outcome
    bound_kept n o true q = tt
    bound_kept n o false q = header_kept n (descriptor_header bytes o).outcome q

    -- If each content satisfies P, so does the value that a walk finds.
    pub walk_kept : (n o : ℕ) → Kept P (walk content bytes bound n o).outcome
    unfolding walk after
    walk_kept zero o = tt
    walk_kept (suc n) o = bound_kept n o (leb bound o) (walk_kept n)

by_kept : {A B : Type 0} (P : A → Type 0) (Q : B → Type 0) (f : Option A × ℕ → Option B × ℕ)
    → ((inner : Option A × ℕ) → ForSome P inner.0 → ForSome Q (f inner).0) → (o : Result (Option A × ℕ) Fault)
    → Kept P o → Kept Q (outcome_after o (λ inner. value (f inner)))
by_kept P Q f step (Ok inner) p = step inner p
by_kept P Q f step (Err k) p = tt

-- If the values of a walk satisfy P, and f makes values of these that satisfy Q, then fields and the walk after them
-- give values that satisfy Q.
pub framed_kept : {A B : Type 0} (P : A → Type 0) (Q : B → Type 0) (u : Result (Unit {0}) Fault)
    (r : Counted (Option A × ℕ)) (f : Option A × ℕ → Option B × ℕ)
    → ((inner : Option A × ℕ) → ForSome P inner.0 → ForSome Q (f inner).0) → Kept P r.outcome
    → Kept Q (outcome_after u (λ _. r >>= λ inner. value (f inner)))
framed_kept P Q (Ok _) r f step p = by_kept P Q f step r.outcome p
framed_kept P Q (Err k) r f step p = tt
