-- Walking over the frames of a buffer, as a loop does.
use Rattle.std.proofs.Common.{◌≡◌, ℕ, zero, suc, ◌+◌, ◌-◌, ◌^◌, ◌<◌, ◌≤◌, Bool, true, false, cond, List, [], ◌++◌}
use Rattle.std.proofs.Common.{length, Result, Ok, Err, refl, sym, ap, ◌∙◌, arith}
use Rattle.std.specs.Prelude.{nat_lt, nat_le, ◌==◌, ◌⊎◌}
use Rattle.std.proofs.Common.{inl, inr}
use Rattle.std.proofs.lemmas.Grind.{common_steps}
use Rattle.std.proofs.lemmas.Bool.{ltb-false}
use Rattle.mp4_frame.specs.Heads.{head, frame_of_head, frame_of, frame, content_in, end_in}
use Rattle.mp4_frame.specs.Reading.{Fault, End, Invalid, Reading, done, ◌>>=◌}
use Rattle.mp4_frame.specs.Streams.{walk_on, walk_at_most, walk}
use Rattle.mp4_frame.specs.declared.frame.Frame.{Frame}
use Rattle.mp4_frame.proofs.Heads.{head_room}

guarded : {A : Type 0} (b : Bool) (k : Fault) (r : Result A Fault) (x : A) → cond b (Err k) r ≡ Ok x
    → (b ≡ false) × (r ≡ Ok x)
guarded true k r x e = absurd cc
guarded false k r x e = (refl, e)

either : {A : Type 0} (b : Bool) (r : Result A Fault) (y x : A) → cond b r (Ok y) ≡ Ok x → (r ≡ Ok x) ⊎ (y ≡ x)
either true r y x e = inl e
either false r y x e = inr cc

first_of_two : {A : Type 0} (b : Bool) (y : A) (r : Result A Fault) (x : A) → cond b (Ok y) r ≡ Ok x
    → (y ≡ x) ⊎ (r ≡ Ok x)
first_of_two true y r x e = inl cc
first_of_two false y r x e = inr e

pub frame_of_head-room : (len : ℕ) (h f : Frame) → content_in h ≤ len → frame_of_head len h ≡ Ok f
    → (content_in h ≤ end_in f) × (end_in f ≤ len)
unfolding frame_of_head
frame_of_head-room len h f room e =
    elim (first_of_two (h.size == 0) _ _ f e) [
      | inl s ↦ (let t : h.start + (len - h.start) ≡ end_in f = ap end_in s in (omega (arith, t), omega (arith, t)))
      | inr r ↦
          (let a = guarded (nat_lt h.size 8) Invalid _ f r in
          let b = guarded (nat_lt (2 ^ 64 - 1) (end_in h)) Invalid _ f a.1 in
          let c = guarded (nat_lt len (end_in h)) End _ f b.1 in
          let t : end_in h ≡ end_in f =
          ap (λ (r : Result Frame Fault). elim r as (λ _. ℕ) [ Ok g ↦ end_in g | Err _ ↦ 0 ]) c.1 in
          (omega (arith, t, ltb-false _ _ a.0), omega (arith, t, ltb-false _ _ c.0)))
    ]

frame_of_room : (B : List ℕ) (o : ℕ) (r : Result Frame Fault) (f : Frame) → (head B o).outcome ≡ r
    → frame_of (length B) r ≡ Ok f → (o + 8 ≤ end_in f) × (end_in f ≤ length B)
frame_of_room B o (Ok c) f is e =
    let room = head_room B o c is in
    let t = frame_of_head-room (length B) c f room.1 e in
    (omega (arith, room.0, t.0), t.1)
frame_of_room B o (Err k) f is e = absurd cc

-- a frame ends at least 8 bytes after it begins, and within the buffer
pub frame_room : (B : List ℕ) (o : ℕ) (f : Frame) → frame B o ≡ Ok f → (o + 8 ≤ end_in f) × (end_in f ≤ length B)
frame_room B o f e = frame_of_room B o (head B o).outcome f refl e

module _ {X : Type 0} (item : Frame → Reading (List X)) (B : List ℕ) where
  same_on : (n m o : ℕ) → ((e : ℕ) → o < e → walk_at_most item B n e ≡ walk_at_most item B m e)
      → (r : Result Frame Fault) → frame B o ≡ r
      → walk_on item (λ e. walk_at_most item B n e) r ≡ walk_on item (λ e. walk_at_most item B m e) r
  same_on n m o ih (Err k) is = refl
  same_on n m o ih (Ok f) is =
      let room = frame_room B o f is in
      ap (λ (r : Reading (List X)). item f >>= λ xs. r >>= λ ys. done (xs ++ ys))
      (ih (end_in f) (omega (arith, room.0)))

  at_end : (n o : ℕ) → length B ≤ o → walk_at_most item B n o ≡ done []
  unfolding walk_at_most
  at_end zero o h = refl
  at_end (suc n) o h =
      let t : nat_le (length B) o ≡ true = grind (arith, common_steps) in
      rw t refl

  -- any bound that is large enough gives the same walk
  enough : (n m o : ℕ) → length B ≤ n + o → length B ≤ m + o → walk_at_most item B n o ≡ walk_at_most item B m o
  unfolding walk_at_most
  enough zero m o h k = sym (at_end m o (omega arith))
  enough (suc n) zero o h k = at_end (suc n) o (omega arith)
  enough (suc n) (suc m) o h k =
      ap (cond (nat_le (length B) o) (done []))
      (same_on n m o (λ e l. enough n m e (omega arith) (omega arith)) (frame B o) refl)

  one_more : (n o : ℕ) → o < length B
      → walk_at_most item B (suc n) o ≡ walk_on item (λ e. walk_at_most item B n e) (frame B o)
  unfolding walk_at_most
  one_more n o h =
      let t : nat_le (length B) o ≡ false = grind (arith, common_steps) in
      rw t refl

  rest_same : (o : ℕ) (r : Result Frame Fault) → frame B o ≡ r
      → walk_on item (λ e. walk_at_most item B (length B - 1) e) r ≡ walk_on item (λ e. walk item B e) r
  rest_same o (Err k) is = refl
  rest_same o (Ok f) is =
      let room = frame_room B o f is in
      ap (λ (r : Reading (List X)). item f >>= λ xs. r >>= λ ys. done (xs ++ ys))
      (enough (length B - 1) (length B) (end_in f) (omega (arith, room.0)) (omega arith))

  -- one frame, and then the walk from its end
  pub walk_first : (o : ℕ) → o < length B → walk item B o ≡ walk_on item (λ e. walk item B e) (frame B o)
  walk_first o h = (let e : length B ≡ suc (length B - 1) = omega arith in ap (λ (n : ℕ). walk_at_most item B n o) e
      ∙ one_more (length B - 1) o h) ∙ rest_same o (frame B o) refl

  -- at the end of the buffer there are no items
  pub walk_none : (o : ℕ) → length B ≤ o → walk item B o ≡ done []
  walk_none o h = at_end (length B) o h
