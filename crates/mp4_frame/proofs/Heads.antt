-- The values in a header.
use Rattle.std.proofs.Common.{◌≡◌, ℕ, ◌+◌, ◌<◌, ◌≤◌, ◌-◌, List, ◌++◌, length, Ok, Err, refl, ap, subst, ◌∙◌, arith}
use Rattle.std.proofs.Common.{length-append, eqb, Bool, true, false, cond, inl, inr}
use Rattle.std.specs.Prelude.{nat_lt, ◌==◌, ◌⊎◌}
use Rattle.std.proofs.lemmas.Bool.{lt-ltb, ltb-false, ne_eqb}
use Rattle.mp4_frame.specs.Bytes.{number}
use Rattle.mp4_frame.specs.Heads.{head, compact_head, large_head}
use Rattle.mp4_frame.specs.Reading.{End, Reading, check, done, ◌>>=◌}
use Rattle.mp4_frame.specs.declared.frame.Frame.{Frame}
use Rattle.mp4_frame.proofs.Checks.{expect_bytes_present, guard_value, check_ok, is_value}
use Rattle.mp4_frame.proofs.Numbers.{number-among}

pub no_head : (B : List ℕ) (o : ℕ) → length B < o + 8 → (head B o).outcome ≡ Err End
unfolding head
no_head B o h = rw (lt-ltb (length B) (o + 8) h) refl

pub short_head : (B : List ℕ) (o size code : ℕ) → o + 8 ≤ length B → size ≡ number B o 4 → code ≡ number B (o + 4) 4
    → (size ≡ 1 → ⊥) → (head B o).outcome ≡ Ok (record { code = code; begin = o; start = o; size = size })
unfolding head
short_head B o size code room is_size is_code short =
    let second = ne_eqb (number B o 4) 1 (λ e. short (is_size ∙ e)) in
    rw (is_size, is_code) (rw (expect_bytes_present B o 8 room, second) refl)

either_reading : {A : Type 0} (b : Bool) (r s : Reading A) (v : A) → (cond b r s).outcome ≡ Ok v
    → (r.outcome ≡ Ok v) ⊎ (s.outcome ≡ Ok v)
either_reading true r s v e = inl e
either_reading false r s v e = inr e

-- a property of both forms of a header at o is a property of the frame that the header gives
pub of_both_forms : (P : Frame → Type 0) (B : List ℕ) (o : ℕ)
    → (o + 8 ≤ length B → P (record { code = number B (o + 4) 4; begin = o; start = o; size = number B o 4 }))
    → (o + 8 + 8 ≤ length B
    → P (record { code = number B (o + 4) 4; begin = o; start = o + 8; size = number B (o + 8) 8 - 8 }))
    → (c : Frame) → (head B o).outcome ≡ Ok c → P c
unfolding head
of_both_forms P B o compact large c e =
    let first = guard_value (nat_lt (length B) (o + 8))
    (λ _. cond (number B o 4 == 1) (large_head B o) (compact_head B o)) c e in
    elim (either_reading (number B o 4 == 1) (large_head B o) (compact_head B o) c first.1) [
      | inl l ↦
          (let value : Frame =
          record { code = number B (o + 4) 4; begin = o; start = o + 8; size = number B (o + 8) 8 - 8 } in
          let p = guard_value (nat_lt (length B) (o + 8 + 8)) (λ _. check _ >>= λ _. done value) c l in
          let q = check_ok _ (λ _. done value) c p.1 in
          subst P (is_value value c q.1) (large (ltb-false _ _ p.0)))
      | inr s ↦ subst P (is_value _ c s) (compact (ltb-false _ _ first.0))
    ]

-- the 8 bytes at the start are present
pub head_room : (B : List ℕ) (o : ℕ) (c : Frame) → (head B o).outcome ≡ Ok c → (o ≤ c.start) × (c.start + 8 ≤ length B)
head_room B o = of_both_forms (λ c. (o ≤ c.start) × (c.start + 8 ≤ length B)) B o
    (λ room. (omega arith, room)) (λ room. (omega arith, room))

-- the box begins at its header
pub head_begin : (B : List ℕ) (o : ℕ) (c : Frame) → (head B o).outcome ≡ Ok c → c.begin ≡ o
head_begin B o = of_both_forms (λ c. c.begin ≡ o) B o (λ room. refl) (λ room. refl)

-- the frame that a size and a code give, with bytes before and after them
pub head_among : (x part rest : List ℕ) (k m code : ℕ) → length x ≡ k → length part ≡ m → 8 ≤ m → number part 0 4 ≡ m
    → number part 4 4 ≡ code
    → head (x ++ (part ++ rest)) k ≡ done (record { code = code; begin = k; start = k; size = m })
unfolding head
head_among x part rest k m code front long least size_first code_next =
    let B = x ++ (part ++ rest) in
    let present : k + 8 ≤ length B =
    omega (arith, length-append x (part ++ rest), length-append part rest, front, long) in
    let first : k ≡ length x + 0 = omega (arith, front) in
    let next : k + 4 ≡ length x + 4 = omega (arith, front) in
    let s : number B k 4 ≡ m = ap (λ (j : ℕ). number B j 4) first ∙ number-among x part rest 0 4 (omega (arith, long))
    ∙ size_first in
    let n : number B (k + 4) 4 ≡ code = ap (λ (j : ℕ). number B j 4) next
    ∙ number-among x part rest 4 4 (omega (arith, long)) ∙ code_next in
    let other : eqb m 1 ≡ false = ne_eqb m 1 (λ e. absurd (omega arith)) in
    rw (expect_bytes_present B k 8 present, s, n, other) refl
