-- The box of a step, and the condition for it to be a frame.
use Rattle.std.proofs.Common.{◌≡◌, ℕ, ◌+◌, ◌-◌, ◌^◌, ◌<◌, ◌≤◌, Bool, true, false, List, length, take, None, Some}
use Rattle.std.proofs.Common.{Result, Ok, Err, refl, sym, arith, subst, inl, inr, min}
use Rattle.std.specs.Prelude.{nat_lt, ◌==◌, ◌&&◌, ◌||◌, ◌⊎◌}
use Rattle.std.specs.declared.option.Option.{Option}
use Rattle.std.proofs.lemmas.Bool.{cond_both, and_parts, ltb-true, ltb-false, lt-ltb, le-ltb, ne_eqb, cases_lt}
use Rattle.std.proofs.lemmas.List.{length-take-le}
use Rattle.mp4_frame.specs.FourCC.{four_cc_of}
use Rattle.mp4_frame.specs.Heads.{head, end_in, frame_of_head, frame_of, frame}
use Rattle.mp4_frame.specs.Reading.{Fault, FaultAs, End, Invalid, NotFound}
use Rattle.mp4_frame.specs.declared.error.Error.{Error}
use Rattle.mp4_frame.specs.declared.four_cc.FourCC.{FourCC}
use Rattle.mp4_frame.specs.declared.frame.Frame.{Frame}
use Rattle.mp4_frame.proofs.Heads.{head_room}
use Rattle.mp4_walk.specs.Found.{code_at, found_as, unread, found_of_head, found_of, found_at, content_begin}
use Rattle.mp4_walk.specs.Found.{end_within}
use Rattle.mp4_walk.specs.Tops.{is_whole}
use Rattle.mp4_walk.specs.FileBoxes.{step_of, step}
use Rattle.mp4_walk.proofs.Steps.{is_read, step_cases}
use Rattle.mp4_walk.specs.Peek.{peek}
use Rattle.mp4_walk.specs.declared.level.Level.{Level}
use Rattle.mp4_walk.specs.declared.step.Step.{Step}
use Rattle.mp4_walk.specs.declared.tree_box.TreeBox.{TreeBox}
use Rattle.mp4_walk.specs.declared.tree_box.BoxState.TheVariants as states
use Rattle.mp4_walk.specs.declared.peek.Peek.{Peek}

-- the item at o has the depth of its level, and a header of at least 8 bytes if one was read
pub record IsAt (l : Level) (o : ℕ) (x : TreeBox) : Type 0 where
  pub depth : x.depth ≡ l.depth
  pub position : x.position ≡ o
  pub header : is_read x.state ≡ true → o + 8 ≤ content_begin x

-- the position and the level at which the walk continues
abbrev pub LeadsTo : Level → TreeBox → ℕ → Option Level → Type 0
LeadsTo l x at None = at ≡ end_within l x
LeadsTo l x at (Some m) =
    (m.depth ≡ l.depth + 1) × (m.end ≡ end_within l x) × (content_begin x ≤ at) × (is_read x.state ≡ true)

-- the step at the item x at o
pub record IsStepOf (l : Level) (o : ℕ) (x : TreeBox) (s : Step) : Type 0 where
  pub depth : s.found.depth ≡ l.depth
  pub position : s.found.position ≡ o
  pub long : s.found.length ≡ x.length
  pub code : s.found.code ≡ x.code
  pub whole : is_whole s.found.state ≡ is_whole x.state
  pub level_depth : s.level.depth ≡ l.depth
  pub level_end : s.level.end ≡ l.end
  pub leads : LeadsTo l x s.at s.inner

head_is_at : (l : Level) (o : ℕ) (h : Frame) → o ≤ h.start → IsAt l o (found_of_head l o h)
unfolding found_of_head
head_is_at l o h from =
    cond_both ((h.size == 0) && (l.depth == 0)) _ _ (IsAt l o)
    (λ _. record { depth = refl; position = refl; header = λ _. omega arith })
    (λ _. cond_both (nat_lt h.size 8) _ _ (IsAt l o)
    (λ _. record { depth = refl; position = refl; header = λ e. absurd cc })
    (λ _. cond_both (nat_lt l.end (h.start + h.size)) _ _ (IsAt l o)
    (λ _. record { depth = refl; position = refl; header = λ _. omega arith })
    (λ _. record { depth = refl; position = refl; header = λ _. omega arith })))

is_at_by : (own : List ℕ) (l : Level) (o : ℕ) (code : Option FourCC) (r : Result Frame Fault) → (head own o).outcome ≡ r
    → IsAt l o (found_of l o code r)
is_at_by own l o code (Ok h) is = head_is_at l o h (head_room own o h is).0
is_at_by own l o code (Err End) is = record { depth = refl; position = refl; header = λ e. absurd cc }
is_at_by own l o code (Err Invalid) is = record { depth = refl; position = refl; header = λ e. absurd cc }
is_at_by own l o code (Err (NotFound _)) is = record { depth = refl; position = refl; header = λ e. absurd cc }

pub found_is_at : (B : List ℕ) (l : Level) (o : ℕ) → IsAt l o (found_at B l o)
found_is_at B l o = let own = take l.end B in is_at_by own l o (code_at own o) (head own o).outcome refl

step_of_is : (l : Level) (o : ℕ) (x : TreeBox) → IsAt l o x → (w : Peek) → IsStepOf l o x (step_of l x w)
step_of_is l o x here w =
    step_cases l x w (IsStepOf l o x)
    (λ f why after depth ends whole. record {
      depth = here.depth;
      position = here.position;
      long = refl;
      code = refl;
      whole = whole;
      level_depth = depth;
      level_end = ends;
      leads = refl;
    })
    (λ f code n after depth ends whole read fits deep. record {
      depth = here.depth;
      position = here.position;
      long = refl;
      code = refl;
      whole = whole;
      level_depth = depth;
      level_end = ends;
      leads = (refl, refl, omega arith, read);
    })

pub step_is : (B : List ℕ) (l : Level) (o : ℕ) → IsStepOf l o (found_at B l o) (step B l o)
step_is B l o =
    let x = found_at B l o in
    step_of_is l o x (found_is_at B l o) (peek B (content_begin x) (end_within l x))

-- the item is a frame
abbrev pub IsOfFrame : Level → ℕ → TreeBox → Result Frame Fault → Type 0
IsOfFrame l o x r = (f : Frame) × (r ≡ Ok f) × (x.code ≡ Some (four_cc_of f.code)) × (x.length ≡ end_in f - o)
    × (end_within l x ≡ end_in f)

-- there is no frame, and the item extends to the end of the level
abbrev pub IsOfNone : Level → TreeBox → Result Frame Fault → Type 0
IsOfNone l x r = ((k : Fault) × (r ≡ Err k)) × (end_within l x ≡ l.end)

frame_to_the_end : (len : ℕ) (h : Frame) → (h.size == 0) ≡ true
    → frame_of_head len h ≡ Ok (record h { size = len - h.start })
unfolding frame_of_head
frame_to_the_end len h t = rw t refl

frame_of_size : (len : ℕ) (h : Frame) → (h.size == 0) ≡ false → nat_lt h.size 8 ≡ false
    → nat_lt (2 ^ 64 - 1) (h.start + h.size) ≡ false → nat_lt len (h.start + h.size) ≡ false
    → frame_of_head len h ≡ Ok h
unfolding frame_of_head
frame_of_size len h a b c d = rw (a, b, c, d) refl

frame_small : (len : ℕ) (h : Frame) → (h.size == 0) ≡ false → nat_lt h.size 8 ≡ true
    → frame_of_head len h ≡ Err Invalid
unfolding frame_of_head
frame_small len h a b = rw (a, b) refl

frame_cut : (len : ℕ) (h : Frame) → (h.size == 0) ≡ false → nat_lt h.size 8 ≡ false
    → nat_lt len (h.start + h.size) ≡ true → (k : Fault) × (frame_of_head len h ≡ Err k)
unfolding frame_of_head
frame_cut len h a b c =
    cond_both (nat_lt (2 ^ 64 - 1) (h.start + h.size)) (Err Invalid) (Err End)
    (λ (r : Result Frame Fault). (frame_of_head len h ≡ r) → (k : Fault) × (frame_of_head len h ≡ Err k))
    (λ _ e. (Invalid, e)) (λ _ e. (End, e)) (rw (a, b, c) refl)

-- the item of a frame, or of a header without a frame
module _ (l : Level) (o : ℕ) (h : Frame) where
  abbrev pub found_by : Result Frame Fault → TreeBox
  found_by (Ok f) = found_as l o (Some (four_cc_of h.code)) (h.start + 8 - o) (end_in f - o) states.Leaf
  found_by (Err k) =
      found_as l o (Some (four_cc_of h.code)) (h.start + 8 - o) (min (h.start + h.size - o) (2 ^ 64 - 1)) states.Cut

  -- the two cases of a size that is too small
  pub too_small : (nat_lt h.size 8 && (nat_lt 0 h.size || nat_lt 0 l.depth)) ≡ true
      → (h.size < 8) × ((0 < h.size) ⊎ (0 < l.depth))
  too_small e =
      let p = and_parts (nat_lt h.size 8) (nat_lt 0 h.size || nat_lt 0 l.depth) e in
      (ltb-true h.size 8 p.0, either (nat_lt 0 h.size) refl p.1)
    where
      either : (b : Bool) → nat_lt 0 h.size ≡ b → (b || nat_lt 0 l.depth) ≡ true → (0 < h.size) ⊎ (0 < l.depth)
      either true is e = inl (ltb-true 0 h.size is)
      either false is e = inr (ltb-true 0 l.depth e)

  pub large_enough : (nat_lt h.size 8 && (nat_lt 0 h.size || nat_lt 0 l.depth)) ≡ false
      → (8 ≤ h.size) ⊎ ((h.size ≡ 0) × (l.depth ≡ 0))
  large_enough e = by (nat_lt h.size 8) (nat_lt 0 h.size) (nat_lt 0 l.depth) refl refl refl e
    where
      by : (a b c : Bool) → nat_lt h.size 8 ≡ a → nat_lt 0 h.size ≡ b → nat_lt 0 l.depth ≡ c
          → (a && (b || c)) ≡ false → (8 ≤ h.size) ⊎ ((h.size ≡ 0) × (l.depth ≡ 0))
      by false b c p q r e = inl (ltb-false h.size 8 p)
      by true true c p q r e = absurd cc
      by true false true p q r e = absurd cc
      by true false false p q r e =
          inr (omega (arith, ltb-false 0 h.size q), omega (arith, ltb-false 0 l.depth r))

  no_top : (0 < h.size) ⊎ (0 < l.depth) → ((h.size == 0) && (l.depth == 0)) ≡ false
  no_top (inl p) = rw (ne_eqb h.size 0 (λ e. omega (arith, e, p))) refl
  no_top (inr p) = rw (ne_eqb l.depth 0 (λ e. omega (arith, e, p))) (no_and (h.size == 0))
    where
      no_and : (b : Bool) → (b && false) ≡ false
      no_and true = refl
      no_and false = refl

  -- a size that is too small. Inside a box, 0 is too small too
  pub small_found : h.size < 8 → (0 < h.size) ⊎ (0 < l.depth)
      → found_of_head l o h ≡ unread l o (Some (four_cc_of h.code)) states.Small
  unfolding found_of_head
  small_found small some = rw (no_top some, lt-ltb h.size 8 small) refl

  found_past : 8 ≤ h.size → nat_lt l.end (h.start + h.size) ≡ true → (b : Bool)
      → nat_lt (2 ^ 64 - 1) (h.start + h.size) ≡ b → found_of_head l o h ≡ found_by (frame_of_head l.end h)
  unfolding found_of_head frame_of_head
  found_past large far true e =
      rw (ne_eqb h.size 0 (λ z. omega (arith, z, large)), le-ltb h.size 8 large, e, far) refl
  found_past large far false e =
      rw (ne_eqb h.size 0 (λ z. omega (arith, z, large)), le-ltb h.size 8 large, e, far) refl

  found_in_level : 8 ≤ h.size → l.end < 2 ^ 64 → h.start + h.size ≤ l.end
      → found_of_head l o h ≡ found_by (frame_of_head l.end h)
  unfolding found_of_head frame_of_head
  found_in_level large short near =
      rw (
        ne_eqb h.size 0 (λ z. omega (arith, z, large)),
        le-ltb h.size 8 large,
        le-ltb (2 ^ 64 - 1) (h.start + h.size) (omega (arith, near, short)),
        le-ltb l.end (h.start + h.size) near,
      ) refl

  found_at_top : h.size ≡ 0 → l.depth ≡ 0 → h.start ≤ l.end → found_of_head l o h ≡ found_by (frame_of_head l.end h)
  unfolding found_of_head frame_of_head
  found_at_top none top inside =
      let whole : h.start + (l.end - h.start) ≡ l.end = omega arith in rw (none, top, whole) refl

  -- any other box is its frame, or is cut
  pub found_is_by : l.end < 2 ^ 64 → h.start ≤ l.end → (8 ≤ h.size) ⊎ ((h.size ≡ 0) × (l.depth ≡ 0))
      → found_of_head l o h ≡ found_by (frame_of_head l.end h)
  found_is_by short inside (inl large) =
      elim (cases_lt l.end (h.start + h.size)) [
        | inl far ↦ found_past large (lt-ltb l.end (h.start + h.size) far) (nat_lt (2 ^ 64 - 1) (h.start + h.size)) refl
        | inr near ↦ found_in_level large short near
      ]
  found_is_by short inside (inr none) = found_at_top none.0 none.1 inside

  pub by_fault : (e : Error) (r : Result Frame Fault) → FaultAs {A = Frame} (Err e) r → found_by r ≡ found_by (Err End)
  by_fault e (Ok f) fault = absurd fault
  by_fault e (Err k) fault = refl

module _ (l : Level) (o : ℕ) (h : Frame) (short : l.end < 2 ^ 64) (inside : o < l.end) (from : o ≤ h.start)
    (room : h.start + 8 ≤ l.end) where
  some_size : nat_lt h.size 8 ≡ false → (h.size == 0) ≡ false
  some_size large = ne_eqb h.size 0 (λ e. let least = ltb-false h.size 8 large in absurd (omega (arith, least, e)))

  head_whole : is_whole (found_of_head l o h).state ≡ true → IsOfFrame l o (found_of_head l o h) (frame_of_head l.end h)
  unfolding found_of_head
  head_whole =
      cond_both ((h.size == 0) && (l.depth == 0)) _ _
      (λ (x : TreeBox). is_whole x.state ≡ true → IsOfFrame l o x (frame_of_head l.end h))
      (λ t _. (
        record h { size = l.end - h.start },
        frame_to_the_end l.end h (and_parts (h.size == 0) (l.depth == 0) t).0,
        refl,
        omega arith,
        omega arith,
      ))
      (λ _. cond_both (nat_lt h.size 8) _ _
      (λ (x : TreeBox). is_whole x.state ≡ true → IsOfFrame l o x (frame_of_head l.end h))
      (λ _ e. absurd cc)
      (λ large. cond_both (nat_lt l.end (h.start + h.size)) _ _
      (λ (x : TreeBox). is_whole x.state ≡ true → IsOfFrame l o x (frame_of_head l.end h))
      (λ _ e. absurd cc)
      (λ near _.
      let most = ltb-false l.end (h.start + h.size) near in
      let fits : nat_lt (2 ^ 64 - 1) (h.start + h.size) ≡ false =
      le-ltb (2 ^ 64 - 1) (h.start + h.size) (omega (arith, most, short)) in (
        h,
        frame_of_size l.end h (some_size large) large fits near,
        refl,
        refl,
        omega (arith, most),
      ))))

  head_none : l.depth ≡ 0 → is_whole (found_of_head l o h).state ≡ false
      → IsOfNone l (found_of_head l o h) (frame_of_head l.end h)
  unfolding found_of_head
  head_none top =
      let Goal = λ (x : TreeBox). is_whole x.state ≡ false → IsOfNone l x (frame_of_head l.end h) in
      let at_top : ((h.size == 0) && (l.depth == 0)) ≡ false → (h.size == 0) ≡ false =
      rw top (zero_size (h.size == 0)) in
      cond_both ((h.size == 0) && (l.depth == 0)) _ _ Goal
      (λ _ e. absurd cc)
      (λ t. cond_both (nat_lt h.size 8) _ _ Goal
      (λ small _. ((Invalid, frame_small l.end h (at_top t) small), omega arith))
      (λ large. cond_both (nat_lt l.end (h.start + h.size)) _ _ Goal
      (λ far _. let beyond =
      ltb-true l.end (h.start + h.size) far in (frame_cut l.end h (at_top t) large far, omega (arith, beyond)))
      (λ _ e. absurd cc)))
    where
      zero_size : (b : Bool) → (b && true) ≡ false → b ≡ false
      zero_size true e = e
      zero_size false e = refl

module _ (B : List ℕ) (short : length B < 2 ^ 64) (l : Level) (o : ℕ) (within : l.end ≤ length B)
    (inside : o < l.end) where
  abbrev own : List ℕ
  own = take l.end B

  long : length own ≡ l.end
  long = length-take-le l.end B within

  whole_by : (code : Option FourCC) (r : Result Frame Fault) → (head own o).outcome ≡ r
      → is_whole (found_of l o code r).state ≡ true → IsOfFrame l o (found_of l o code r) (frame_of l.end r)
  whole_by code (Ok h) is = let room =
      head_room own o h is in head_whole l o h (omega arith) inside room.0 (omega (arith, room.1, long))
  whole_by code (Err End) is = λ e. absurd cc
  whole_by code (Err Invalid) is = λ e. absurd cc
  whole_by code (Err (NotFound _)) is = λ e. absurd cc

  -- a whole box is a frame of its level
  pub found_whole : is_whole (found_at B l o).state ≡ true → IsOfFrame l o (found_at B l o) (frame own o)
  found_whole e = subst (λ (n : ℕ). IsOfFrame l o (found_at B l o) (frame_of n (head own o).outcome)) (sym long)
      (whole_by (code_at own o) (head own o).outcome refl e)

  none_by : l.depth ≡ 0 → (code : Option FourCC) (r : Result Frame Fault) → (head own o).outcome ≡ r
      → is_whole (found_of l o code r).state ≡ false → IsOfNone l (found_of l o code r) (frame_of l.end r)
  none_by top code (Ok h) is = let room =
      head_room own o h is in head_none l o h (omega arith) inside room.0 (omega (arith, room.1, long)) top
  none_by top code (Err End) is = λ _. ((End, refl), omega arith)
  none_by top code (Err Invalid) is = λ _. ((Invalid, refl), omega arith)
  none_by top code (Err (NotFound n)) is = λ _. ((NotFound n, refl), omega arith)

  -- if the item at the top level is not a whole box, there is no frame
  pub found_none : l.depth ≡ 0 → is_whole (found_at B l o).state ≡ false → IsOfNone l (found_at B l o) (frame own o)
  found_none top e = subst (λ (n : ℕ). IsOfNone l (found_at B l o) (frame_of n (head own o).outcome)) (sym long)
      (none_by top (code_at own o) (head own o).outcome refl e)
