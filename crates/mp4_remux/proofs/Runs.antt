-- The search over the pieces finds the place that the bytes come from.
use Rattle.std.proofs.Common.{◌≡◌, ℕ, ◌+◌, ◌-◌, ◌<◌, ◌≤◌, inl, inr, List, [], ◌∷◌, Some, true, refl, ap}
use Rattle.std.proofs.Common.{◌∙◌, sym, arith}
use Rattle.std.specs.Prelude.{min}
use Rattle.std.proofs.lemmas.Bool.{cases_lt, cases_eq, lt-ltb, le-ltb, le-leb, lt-leb, eqb-true, eq-eqb, ne_eqb}
use Rattle.std.proofs.lemmas.Bool.{false≢true}
use Rattle.std.proofs.lemmas.Option.{none-some, same_Some}
use Rattle.mp4_remux.specs.declared.pieces.piece.Piece.{Piece}
use Rattle.mp4_remux.specs.declared.pieces.piece.Piece.TheVariants.{New, Old}
use Rattle.mp4_remux.specs.declared.pieces.carried.Run.{Run}
use Rattle.mp4_remux.specs.Pieces.{long, origin, origin_in, carried, if_left, after_in, Carries}

abbrev run : ℕ → ℕ → ℕ → Run
run o n a = record { at = o; size = n; from = a }

-- a byte after a piece
pub past : (p : Piece) (ps : List Piece) (j k : ℕ) → long p ≤ j → j - long p ≡ k → origin (p ∷ ps) j ≡ origin ps k
unfolding origin
past p ps j k le place = rw (le-ltb j (long p) le) (ap (origin ps) place)

-- a byte of a piece
within : (p : Piece) (ps : List Piece) (j : ℕ) → j < long p → origin (p ∷ ps) j ≡ origin_in p j
unfolding origin
within p ps j lt = rw (lt-ltb j (long p) lt) refl

Found : List Piece → Type 0
Found ps = (o n a : ℕ) → carried ps (run o n a) ≡ true → Carries ps o n a

forward_in : (p : Piece) (ps : List Piece) (o n a : ℕ) → Found ps → o < long p
    → if_left (λ s. carried ps s) (after_in p (run o n a)) ≡ true → Carries (p ∷ ps) o n a
unfolding Found
forward_in (New v) ps o n a ih lt is = absurd (false≢true is)
forward_in (Old b e) ps o n a ih lt is = λ i less.
    elim (cases_eq (b + o) a) [
      | inr ne ↦ absurd (false≢true (rw (ne_eqb (b + o) a ne) at is))
      | inl eq ↦
          let part = min (e - a) n in
          let rest : carried ps (run 0 (n - part) (a + part)) ≡ true = rw (eq-eqb (b + o) a eq) at is in
          elim (cases_lt (o + i) (e - b)) [
            | inl lower ↦
                let place : b + (o + i) ≡ a + i = omega arith in
                within (Old b e) ps (o + i) lower ∙ ap (λ (k : ℕ). Some k) place
            | inr higher ↦
                let whole : part ≡ e - a = omega arith in
                let begun : i - part < n - part = omega arith in
                let next : origin ps (0 + (i - part)) ≡ Some (a + part + (i - part)) =
                ih 0 (n - part) (a + part) rest (i - part) begun in
                let same : o + i - (e - b) ≡ 0 + (i - part) = omega arith in
                let place : a + part + (i - part) ≡ a + i = omega arith in
                past (Old b e) ps (o + i) (0 + (i - part)) higher same ∙ next ∙ ap (λ (k : ℕ). Some k) place
          ]
    ]

forward_one : (p : Piece) (ps : List Piece) (o n a : ℕ) → Found ps → carried (p ∷ ps) (run o n a) ≡ true
    → Carries (p ∷ ps) o n a
unfolding Found carried
forward_one p ps o n a ih is i less =
    let some : n ≡ 0 → ⊥ = λ none. omega arith in
    let left = rw (ne_eqb n 0 some) at is in
    elim (cases_lt o (long p)) [
      | inl lt ↦ forward_in p ps o n a ih lt (rw (lt-leb (long p) o lt) at left) i less
      | inr le ↦
          past p ps (o + i) (o - long p + i) (omega arith) (omega arith)
          ∙ ih (o - long p) n a (rw (le-leb (long p) o le) at left) i less
    ]

forward_none : (o n a : ℕ) → carried [] (run o n a) ≡ true → Carries [] o n a
unfolding carried
forward_none o n a is i less =
    let none = eqb-true n 0 is in
    absurd (omega arith)

pub forward : (ps : List Piece) (o n a : ℕ) → carried ps (record { at = o; size = n; from = a }) ≡ true
    → Carries ps o n a
unfolding Found
forward [] o n a is = forward_none o n a is
forward (p ∷ ps) o n a is = forward_one p ps o n a (λ x y z h. forward ps x y z h) is

Sought : List Piece → Type 0
Sought ps = (o n a : ℕ) → Carries ps o n a → carried ps (run o n a) ≡ true

-- the first byte of a run that begins in a piece
first_byte : (p : Piece) (ps : List Piece) (o n a : ℕ) → o < long p → 0 < n → Carries (p ∷ ps) o n a
    → origin_in p o ≡ Some a
first_byte p ps o n a lt begun c =
    let first = c 0 begun in
    let same : o + 0 ≡ o = omega arith in
    let from : a + 0 ≡ a = omega arith in
    sym (within p ps o lt) ∙ ap (origin (p ∷ ps)) (sym same) ∙ first ∙ ap (λ (k : ℕ). Some k) from

backward_in : (p : Piece) (ps : List Piece) (o n a : ℕ) → Sought ps → o < long p → 0 < n → Carries (p ∷ ps) o n a
    → if_left (λ s. carried ps s) (after_in p (run o n a)) ≡ true
unfolding Sought
backward_in (New v) ps o n a ih lt begun c = absurd (none-some a (first_byte (New v) ps o n a lt begun c))
backward_in (Old b e) ps o n a ih lt begun c =
    let eq : b + o ≡ a = same_Some (b + o) a (first_byte (Old b e) ps o n a lt begun c) in
    let part = min (e - a) n in
    let rest : Carries ps 0 (n - part) (a + part) = λ i less.
    let whole : part ≡ e - a = omega arith in
    let place : a + (part + i) ≡ a + part + i = omega arith in
    sym (past (Old b e) ps (o + (part + i)) (0 + i) (omega arith) (omega arith)) ∙ c (part + i) (omega arith)
    ∙ ap (λ (k : ℕ). Some k) place in
    rw (eq-eqb (b + o) a eq) (ih 0 (n - part) (a + part) rest)

backward_one : (p : Piece) (ps : List Piece) (o n a : ℕ) → Sought ps → Carries (p ∷ ps) o n a
    → carried (p ∷ ps) (run o n a) ≡ true
unfolding Sought carried
backward_one p ps o n a ih c =
    elim (cases_eq n 0) [
      | inl none ↦ rw (eq-eqb n 0 none) refl
      | inr some ↦
          rw (ne_eqb n 0 some)
          (elim (cases_lt o (long p)) [
            | inl lt ↦ rw (lt-leb (long p) o lt) (backward_in p ps o n a ih lt (omega arith) c)
            | inr le ↦
                rw (le-leb (long p) o le)
                (ih (o - long p) n a
                (λ i less. sym (past p ps (o + i) (o - long p + i) (omega arith) (omega arith)) ∙ c i less))
          ])
    ]

backward_none : (o n a : ℕ) → Carries [] o n a → carried [] (run o n a) ≡ true
unfolding carried origin
backward_none o n a c =
    elim (cases_eq n 0) [
      | inl none ↦ eq-eqb n 0 none
      | inr some ↦ absurd (none-some (a + 0) (c 0 (omega arith)))
    ]

pub backward : (ps : List Piece) (o n a : ℕ) → Carries ps o n a
    → carried ps (record { at = o; size = n; from = a }) ≡ true
unfolding Sought
backward [] o n a c = backward_none o n a c
backward (p ∷ ps) o n a c = backward_one p ps o n a (λ x y z h. backward ps x y z h) c
