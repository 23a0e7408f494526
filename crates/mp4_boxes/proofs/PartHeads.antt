-- The header of a box, as far as a part of the input shows it.
use Rattle.std.proofs.Common.{◌≡◌, ℕ, ◌+◌, ◌-◌, ◌<◌, ◌≤◌, Bool, true, false, cond, List, ◌++◌, length, take, Result, Ok}
use Rattle.std.proofs.Common.{Err, refl, sym, ap, subst, ◌∙◌, arith, inl, inr, length-append}
use Rattle.std.specs.Prelude.{nat_le, ◌==◌, ◌||◌, ◌⊎◌}
use Rattle.std.proofs.lemmas.Bool.{both_ways, cases_lt, eq-eqb, eqb-true, lt-ltb}
use Rattle.std.proofs.lemmas.List.{take-append-drop, length-take-le, length-drop}
use Rattle.mp4_lemmas.proofs.Booleans.{by_bool}
use Rattle.mp4_frame.specs.Bytes.{number}
use Rattle.mp4_frame.specs.Heads.{head}
use Rattle.mp4_frame.specs.Reading.{Fault, End, Invalid, FaultAs, IsFault, check, done, ◌>>=◌}
use Rattle.mp4_frame.specs.declared.error.Error.{Error}
use Rattle.mp4_frame.specs.declared.error.Error.TheVariants as errors
use Rattle.mp4_frame.specs.declared.frame.Frame.{Frame}
use Rattle.mp4_frame.proofs.Checks.{expect_bytes_present}
use Rattle.mp4_frame.proofs.Heads.{no_head, short_head}
use Rattle.mp4_frame.proofs.Numbers.{number-among}
use Rattle.mp4_boxes.specs.Parts.{HasPart}

-- the head of a box, in a part that begins at the offset `from`
abbrev pub moved : ℕ → Result Frame Fault → Result Frame Fault
moved from (Ok h) = Ok (record h { begin = from + h.begin; start = from + h.start })
moved from (Err k) = Err k

-- a head, if a check holds
abbrev if_fine : Bool → Frame → Result Frame Fault
if_fine fine h = cond fine (Ok h) (Err Invalid)

-- the head of a whole header of 16 bytes with this code and size
abbrev large : ℕ → ℕ → ℕ → Result Frame Fault
large code size o =
    if_fine ((size == 0) || nat_le 16 size) (record { code = code; begin = o; start = o + 8; size = size - 8 })

checked : (fine : Bool) (h : Frame) → (check fine >>= λ _. done h).outcome ≡ if_fine fine h
checked true h = refl
checked false h = refl

moved_if_fine : (fine : Bool) (code size from o : ℕ)
    → moved from (if_fine fine (record { code = code; begin = o; start = o + 8; size = size }))
    ≡ if_fine fine (record { code = code; begin = from + o; start = from + o + 8; size = size })
moved_if_fine true code size from o = let on : from + (o + 8) ≡ from + o + 8 = omega arith in rw on refl
moved_if_fine false code size from o = refl

not_end : (fine : Bool) (h : Frame) → if_fine fine h ≡ Err End → ⊥
not_end true h e = cc
not_end false h e = cc

large_cut : (B : List ℕ) (o : ℕ) → o + 8 ≤ length B → number B o 4 ≡ 1 → length B < o + 8 + 8
    → (head B o).outcome ≡ Err End
unfolding head
large_cut B o room one short = rw (expect_bytes_present B o 8 room, one, lt-ltb (length B) (o + 8 + 8) short) refl

large_whole : (B : List ℕ) (o : ℕ) → o + 8 + 8 ≤ length B → number B o 4 ≡ 1
    → (head B o).outcome ≡ large (number B (o + 4) 4) (number B (o + 8) 8) o
unfolding head
large_whole B o room one =
    rw (expect_bytes_present B o 8 (omega (arith, room)), one, expect_bytes_present B (o + 8) 8 room) (checked _ _)

-- a header whose first 8 bytes are cut, one of 8 bytes, and one of 16 bytes that is cut or whole
forms : {P : Type 0} (B : List ℕ) (o : ℕ) → (length B < o + 8 → P)
    → (o + 8 ≤ length B → (number B o 4 ≡ 1 → ⊥) → P)
    → (o + 8 ≤ length B → number B o 4 ≡ 1 → length B < o + 8 + 8 → P)
    → (o + 8 + 8 ≤ length B → number B o 4 ≡ 1 → P) → P
forms B o none compact cut whole =
    elim (cases_lt (length B) (o + 8)) [
      | inl short ↦ none short
      | inr room ↦
          by_bool (number B o 4 == 1)
          (λ e. let one = eqb-true (number B o 4) 1 e in
          elim (cases_lt (length B) (o + 8 + 8)) [ inl short ↦ cut room one short | inr all ↦ whole all one ])
          (λ e. compact room (λ one. both_ways _ e (eq-eqb _ _ one)))
    ]

cut_form : (B : List ℕ) (o : ℕ) → (head B o).outcome ≡ Err End
    → (length B < o + 8) ⊎ ((o + 8 ≤ length B) × (number B o 4 ≡ 1) × (length B < o + 8 + 8))
cut_form B o e =
    forms B o inl
    (λ room other. absurd (not_end true _ (sym (short_head B o _ _ room refl refl other) ∙ e)))
    (λ room one short. inr (room, one, short))
    (λ room one. absurd (not_end _ _ (sym (large_whole B o room one) ∙ e)))

-- the part cuts a header of 16 bytes at most
pub few_left : (W : List ℕ) (k : ℕ) → (head W k).outcome ≡ Err End → length W < k + 16
few_left W k e =
    elim (cut_form W k e) [ inl short ↦ omega (arith, short) | inr p ↦ omega (arith, p.2) ]

pub end_by : (e : Error) (r : Result Frame Fault) → e ≡ errors.IoError → FaultAs (Err e) r → r ≡ Err End
end_by e (Ok h) is fault = absurd fault
end_by e (Err k) is fault = let same : IsFault errors.IoError k =
    subst (λ (e : Error). IsFault e k) is fault in ap (λ (k : Fault). Err k) same

is_end : (e : Error) → IsFault e End → e ≡ errors.IoError
is_end errors.IoError h = refl
is_end (errors.InvalidData _) h = absurd cc
is_end _ h = absurd h

fault_of_end : (e : Error) (r : Result Frame Fault) → FaultAs (Err e) r → r ≡ Err End → e ≡ errors.IoError
fault_of_end e (Ok h) fault is = absurd fault
fault_of_end e (Err k) fault is = let same : k ≡ End = cc in is_end e (subst (IsFault e) same fault)

moved_fault : (e : Error) (from : ℕ) (r : Result Frame Fault) → FaultAs (Err e) r → FaultAs (Err e) (moved from r)
moved_fault e from (Ok h) fault = absurd fault
moved_fault e from (Err k) fault = fault

module _ (B W rest : List ℕ) (from : ℕ) (has : HasPart B from W rest) where
  long : length B ≡ from + (length W + length rest)
  long = omega (arith, has.0, length-drop from B, ap length has.1, length-append W rest)

  -- a number in the part is that of the input
  number_moved : (i k w : ℕ) → i ≡ from + k → k + w ≤ length W → number B i w ≡ number W k w
  number_moved i k w on room =
      let front : length (take from B) ≡ from = length-take-le from B has.0 in
      let whole : take from B ++ (W ++ rest) ≡ B = ap (λ (xs : List ℕ). take from B ++ xs) (sym has.1)
      ∙ take-append-drop from B in
      ap (λ (xs : List ℕ). number xs i w) (sym whole)
      ∙ ap (λ (j : ℕ). number (take from B ++ (W ++ rest)) j w) (on ∙ ap (λ (j : ℕ). j + k) (sym front))
      ∙ number-among (take from B) W rest k w room

  -- a header that the part does not cut is that of the input
  pub whole_head : (k : ℕ) → ((head W k).outcome ≡ Err End → ⊥)
      → (head B (from + k)).outcome ≡ moved from (head W k).outcome
  whole_head k whole =
      let o = from + k in
      let code = number W (k + 4) 4 in
      let size = number W (k + 8) 8 in
      forms W k
      (λ short. absurd (whole (no_head W k short)))
      (λ room other.
      let s = number_moved o k 4 refl (omega (arith, room)) in
      let c = number_moved (o + 4) (k + 4) 4 (omega arith) (omega (arith, room)) in
      short_head B o (number W k 4) code (omega (arith, long, room)) (sym s) (sym c) other
      ∙ sym (ap (moved from) (short_head W k (number W k 4) code room refl refl other)))
      (λ room one short. absurd (whole (large_cut W k room one short)))
      (λ room one.
      let s = number_moved o k 4 refl (omega (arith, room)) in
      let c = number_moved (o + 4) (k + 4) 4 (omega arith) (omega (arith, room)) in
      let g = number_moved (o + 8) (k + 8) 8 (omega arith) (omega (arith, room)) in
      large_whole B o (omega (arith, long, room)) (s ∙ one)
      ∙ ap (λ (n : ℕ). large n (number B (o + 8) 8) o) c
      ∙ ap (λ (n : ℕ). large code n o) g
      ∙ sym (ap (moved from) (large_whole W k room one)
      ∙ moved_if_fine ((size == 0) || nat_le 16 size) code (size - 8) from k))

  -- a header that the part cuts is cut in the input, if that ends there too
  cut_head : (k : ℕ) → (head W k).outcome ≡ Err End → from + length W ≡ length B → (head B (from + k)).outcome ≡ Err End
  cut_head k cut all =
      elim (cut_form W k cut) [
        | inl short ↦ no_head B (from + k) (omega (arith, short, all))
        | inr p ↦ large_cut B (from + k) (omega (arith, long, p.0))
            (number_moved (from + k) k 4 refl (omega (arith, p.0)) ∙ p.1) (omega (arith, p.2, all))
      ]

  module _ (at : ℕ) (order : from ≤ at) where
    there : from + (at - from) ≡ at
    there = omega (arith, order)

    pub head_shown : (h : Frame) → (head W (at - from)).outcome ≡ Ok h
        → (head B at).outcome ≡ Ok (record h { begin = from + h.begin; start = from + h.start })
    head_shown h is =
        ap (λ (i : ℕ). (head B i).outcome) (sym there)
        ∙ whole_head (at - from) (λ e. not_end true h (sym is ∙ e)) ∙ ap (moved from) is

    pub head_ended : (head W (at - from)).outcome ≡ Err End → from + length W ≡ length B → (head B at).outcome ≡ Err End
    head_ended is all = ap (λ (i : ℕ). (head B i).outcome) (sym there) ∙ cut_head (at - from) is all

    pub head_faulted : (e : Error) → (e ≡ errors.IoError → ⊥) → FaultAs (Err e) (head W (at - from)).outcome
        → FaultAs (Err e) (head B at).outcome
    head_faulted e other fault =
        let is = ap (λ (i : ℕ). (head B i).outcome) (sym there)
        ∙ whole_head (at - from) (λ end. other (fault_of_end e (head W (at - from)).outcome fault end)) in
        subst (λ (r : Result Frame Fault). FaultAs (Err e) r) (sym is)
        (moved_fault e from (head W (at - from)).outcome fault)
