-- Each step takes at least one byte of its level and stays within it. So the boxes of a level do not depend on the
-- number of allowed steps, if it is at least the number of bytes.
use Rattle.std.proofs.Common.{◌≡◌, ℕ, zero, suc, ⊎_elim, ◌+◌, ◌-◌, ◌<◌, ◌≤◌, Bool, true, false, List, [], ◌∷◌, ◌++◌}
use Rattle.std.proofs.Common.{length, take, None, Some, Result, Ok, Err, refl, sym, ap, ◌∙◌, arith, subst}
use Rattle.std.specs.Prelude.{IfSome, nat_lt, nat_le, ◌==◌, ◌&&◌}
use Rattle.std.specs.declared.option.Option.{Option}
use Rattle.std.proofs.lemmas.Bool.{cond_both, le-leb, ltb-true, ltb-false, cases_lt}
use Rattle.std.proofs.lemmas.Grind.{common_steps}
use Rattle.std.proofs.lemmas.List.{length-take-le}
use Rattle.mp4_frame.specs.Heads.{head}
use Rattle.mp4_frame.specs.Reading.{Fault, End, Invalid, NotFound}
use Rattle.mp4_frame.specs.FourCC.{number_of}
use Rattle.mp4_frame.specs.declared.four_cc.FourCC.{FourCC}
use Rattle.mp4_frame.specs.declared.frame.Frame.{Frame}
use Rattle.mp4_frame.proofs.Heads.{head_room, of_both_forms}
use Rattle.mp4_walk.specs.Found.{code_at, found_of_head, found_of, found_at, content_begin, end_within}
use Rattle.mp4_walk.specs.Fronts.{length_of, front_of, fields_in, level_after}
use Rattle.mp4_walk.specs.declared.fronts.Front.{Front}
use Rattle.mp4_walk.specs.FileBoxes.{GoesDeeper, GoesOn, StaysIn, passed, step_by, step_of_code, step_of_what, step_of}
use Rattle.mp4_walk.specs.Tops.{is_whole}
use Rattle.mp4_walk.specs.FileBoxes.{entered, if_whole, step, boxes_after, boxes_by, boxes_at_most, boxes_in}
use Rattle.mp4_walk.specs.Peek.{peek}
use Rattle.mp4_walk.specs.declared.level.Level.{Level}
use Rattle.mp4_walk.specs.declared.step.Step.{Step}
use Rattle.mp4_walk.specs.declared.step.TheConstants as constants
use Rattle.mp4_walk.specs.declared.tree_box.TreeBox.{TreeBox}
use Rattle.mp4_walk.specs.declared.tree_box.BoxState.{BoxState}
use Rattle.mp4_walk.specs.declared.tree_box.BoxState.TheVariants as states
use Rattle.mp4_walk.specs.declared.peek.Peek.{Peek}

-- the item at o starts there and is not empty. Its header has at most 16 bytes if a content follows
abbrev pub IsAfter : Level → ℕ → TreeBox → Type 0
IsAfter l o x = (x.position ≡ o) × (0 < x.header_length) × (content_begin x ≤ end_within l x)
    × (content_begin x < end_within l x → x.header_length ≤ 16)

has_room : (room : ℕ) (r : Option Front) → IfSome (fields_in room r) (λ n. n ≤ room)
has_room room None = tt
has_room room (Some f) =
    let n = length_of f in
    cond_both (nat_lt room n) None (Some n) (λ (s : Option ℕ). IfSome s (λ n. n ≤ room)) (λ _. tt)
    (λ e. ltb-false room n e)

-- a header was read
abbrev pub is_read : BoxState → Bool
is_read states.Small = false
is_read states.NoHeader = false
is_read _ = true

if_whole_same : (whole : BoxState) → is_whole whole ≡ true → (w : BoxState) → is_whole (if_whole whole w) ≡ is_whole w
if_whole_same whole e states.Leaf = e
if_whole_same whole e states.Parent = refl
if_whole_same whole e states.TooDeep = refl
if_whole_same whole e states.Cut = refl
if_whole_same whole e states.Small = refl
if_whole_same whole e states.NoHeader = refl

-- what holds of each step over an item and of each step into it holds of its step
module _ (l : Level) (x : TreeBox) (w : Peek) (P : Step → Type 0)
    (over : (f : Option Front) (s : BoxState) (after : Level) → after.depth ≡ l.depth → after.end ≡ l.end
    → is_whole s ≡ is_whole x.state → P (passed l (record x { front = f; state = s }) after))
    (into : (f : Option Front) (code n : ℕ) (after : Level) → after.depth ≡ l.depth → after.end ≡ l.end
    → is_whole (if_whole states.Parent x.state) ≡ is_whole x.state → is_read x.state ≡ true
    → n ≤ end_within l x - content_begin x → l.depth < constants.DEEPEST
    → P (entered l (record x { front = f }) code w n after)) where
  by_fields : (f : Option Front) (code : ℕ) (after : Level) → after.depth ≡ l.depth → after.end ≡ l.end
      → is_read x.state ≡ true → (r : Option ℕ) → IfSome r (λ n. n ≤ end_within l x - content_begin x)
      → P (step_by l (record x { front = f }) code w after r)
  by_fields f code after depth ends read None h = over f x.state after depth ends refl
  by_fields f code after depth ends read (Some n) h =
      cond_both (nat_lt l.depth constants.DEEPEST) _ _ P
      (λ e. into f code n after depth ends (if_whole_same states.Parent refl x.state) read h (ltb-true _ _ e))
      (λ _. over f (if_whole states.TooDeep x.state) after depth ends (if_whole_same states.TooDeep refl x.state))

  by_code : is_read x.state ≡ true → (code : Option FourCC) → P (step_of_code l x w code)
  by_code read None = over x.front x.state l refl refl refl
  by_code read (Some code) =
      let room = end_within l x - content_begin x in
      let front = front_of l.context (number_of code) w in
      by_fields front (number_of code) (level_after l (number_of code) w) refl refl read (fields_in room front)
      (has_room room front)

  by_state : (why : BoxState) → x.state ≡ why → P (step_of_what l x w why)
  by_state states.Small e = over x.front x.state l refl refl refl
  by_state states.NoHeader e = over x.front x.state l refl refl refl
  by_state states.Leaf e = by_code (ap is_read e) x.code
  by_state states.Parent e = by_code (ap is_read e) x.code
  by_state states.TooDeep e = by_code (ap is_read e) x.code
  by_state states.Cut e = by_code (ap is_read e) x.code

  pub step_cases : P (step_of l x w)
  step_cases = by_state x.state refl

-- the step at the item advances
pub found_goes_on : (l : Level) (o : ℕ) (x : TreeBox) → x.position ≡ o → 0 < x.header_length
    → content_begin x ≤ end_within l x → (w : Peek) (s : Step) → s ≡ step_of l x w → GoesOn l o s
found_goes_on l o x here some on w s e =
    subst (GoesOn l o) (sym e)
    (step_cases l x w (GoesOn l o)
    (λ f why after depth ends whole. (omega (arith, here, some, on), omega arith, ends))
    (λ f code n after depth ends whole read fits deep.
    (omega (arith, here, some), (omega (arith, on, fits), omega arith), ends)))

-- a step stays at the depth of its level or enters a level that is one deeper
abbrev IsDeep : Level → Step → Type 0
IsDeep l s = (s.level.depth ≡ l.depth) × GoesDeeper l s.inner

pub found_goes_deep : (l : Level) (x : TreeBox) (w : Peek) (s : Step) → s ≡ step_of l x w
    → (s.level.depth ≡ l.depth) × GoesDeeper l s.inner
found_goes_deep l x w s e =
    subst (IsDeep l) (sym e)
    (step_cases l x w (IsDeep l) (λ f why after depth ends whole. (depth, tt))
    (λ f code n after depth ends whole read fits deep. (depth, (refl, deep))))

-- a header has at most 16 bytes
head_near : (B : List ℕ) (o : ℕ) (h : Frame) → (head B o).outcome ≡ Ok h → h.start ≤ o + 8
head_near B o = of_both_forms (λ h. h.start ≤ o + 8) B o (λ _. omega arith) (λ _. omega arith)

-- the content of a box is after its position
pub head_after : (l : Level) (o : ℕ) (h : Frame) → o < l.end → o ≤ h.start → h.start ≤ o + 8 → h.start + 8 ≤ l.end
    → IsAfter l o (found_of_head l o h)
unfolding found_of_head
head_after l o h inside from near room =
    cond_both ((h.size == 0) && (l.depth == 0)) _ _ (IsAfter l o)
    (λ _. (refl, omega arith, omega arith, λ _. omega arith))
    (λ _. cond_both (nat_lt h.size 8) _ _ (IsAfter l o)
    (λ _. (refl, omega arith, omega arith, λ e. absurd (omega (arith, e))))
    (λ large. let least = ltb-false _ _ large in cond_both (nat_lt l.end (h.start + h.size)) _ _ (IsAfter l o)
    (λ _. (refl, omega arith, omega (arith, least), λ _. omega arith))
    (λ fits. (refl, omega arith, omega (arith, least), λ _. omega arith))))

-- the content of a box is after its position, for a header that was read from the window at o
pub later_after : (W : List ℕ) (l : Level) (o : ℕ) (h : Frame) (x : TreeBox) → o < l.end → o + length W ≤ l.end
    → (head W 0).outcome ≡ Ok h → x ≡ found_of_head l o (record h { begin = h.begin + o; start = h.start + o })
    → IsAfter l o x
later_after W l o h x inside within is by =
    let room = head_room W 0 h is in
    let near = head_near W 0 h is in
    subst (IsAfter l o) (sym by)
    (head_after l o (record h { begin = h.begin + o; start = h.start + o }) inside (omega arith) (omega (arith, near))
    (omega (arith, room.1, within)))

found_of_after : (own : List ℕ) (l : Level) (o : ℕ) (code : Option FourCC) → length own ≡ l.end → o < l.end
    → (r : Result Frame Fault) → (head own o).outcome ≡ r → IsAfter l o (found_of l o code r)
found_of_after own l o code long inside (Ok h) is =
    let room = head_room own o h is in
    head_after l o h inside room.0 (head_near own o h is) (omega (arith, room.1, long))
found_of_after own l o code long inside (Err End) is =
    (refl, omega arith, omega arith, λ e. absurd (omega (arith, e)))
found_of_after own l o code long inside (Err Invalid) is =
    (refl, omega arith, omega arith, λ e. absurd (omega (arith, e)))
found_of_after own l o code long inside (Err (NotFound _)) is =
    (refl, omega arith, omega arith, λ e. absurd (omega (arith, e)))

pub found_after : (B : List ℕ) (l : Level) (o : ℕ) → l.end ≤ length B → o < l.end → IsAfter l o (found_at B l o)
found_after B l o within inside = let own =
    take l.end B in found_of_after own l o (code_at own o) (length-take-le l.end B within) inside
    (head own o).outcome refl

-- each step advances
pub step_goes_on : (B : List ℕ) (l : Level) (o : ℕ) → l.end ≤ length B → o < l.end → GoesOn l o (step B l o)
step_goes_on B l o within inside =
    let x = found_at B l o in
    let after = found_after B l o within inside in
    found_goes_on l o x after.0 after.1 after.2 (peek B (content_begin x) (end_within l x)) (step B l o) refl

module _ (B : List ℕ) where
  -- two functions for boxes that agree on smaller levels agree on the boxes after a step
  after_same : (f g : Level → ℕ → List TreeBox) (l : Level) (o : ℕ) (s : Step) → GoesOn l o s → l.end ≤ length B
      → ((m : Level) (e : ℕ) → m.end ≤ length B → m.end - e < l.end - o → e ≤ m.end → f m e ≡ g m e) → o < l.end
      → (inner : Option Level) → s.inner ≡ inner
      → boxes_after f s.level s.at inner ≡ boxes_after g s.level s.at inner
  after_same f g l o s goes within same inside None is =
      let stays : StaysIn l.end s.at None = rw is at goes.1 in
      same s.level s.at (omega (arith, goes.2)) (omega (arith, goes.0, goes.2, stays)) (omega (arith, goes.2, stays))
  after_same f g l o s goes within same inside (Some m) is =
      let stays : StaysIn l.end s.at (Some m) = rw is at goes.1 in
      let first = same m s.at (omega (arith, stays.1)) (omega (arith, goes.0, stays.0, stays.1)) stays.0 in
      let rest = same s.level m.end (omega (arith, goes.2)) (omega (arith, goes.0, goes.2, stays.0, stays.1))
      (omega (arith, goes.2, stays.1)) in
      ap (λ (xs : List TreeBox). xs ++ f s.level m.end) first ∙ ap (λ (ys : List TreeBox). g m s.at ++ ys) rest

  -- no boxes are at the end of a level
  pub none_at_most : (n : ℕ) (l : Level) (o : ℕ) → l.end ≤ o → boxes_at_most n B l o ≡ []
  unfolding boxes_at_most
  none_at_most zero l o h = refl
  none_at_most (suc n) l o h = let t : nat_le l.end o ≡ true = le-leb _ _ h in rw t refl

  one_more : (n : ℕ) (l : Level) (o : ℕ) → o < l.end
      → boxes_at_most (suc n) B l o ≡ boxes_by (λ m e. boxes_at_most n B m e) (step B l o)
  unfolding boxes_at_most
  one_more n l o h = let t : nat_le l.end o ≡ false = grind (arith, common_steps) in rw t refl

  -- all large enough bounds give the same boxes
  enough : (n m : ℕ) (l : Level) (o : ℕ) → l.end ≤ length B → l.end - o ≤ n → l.end - o ≤ m → o ≤ l.end
      → boxes_at_most n B l o ≡ boxes_at_most m B l o
  enough zero m l o within h k here = none_at_most zero l o (omega arith) ∙ sym (none_at_most m l o (omega arith))
  enough (suc n) zero l o within h k here = none_at_most (suc n) l o (omega arith)
      ∙ sym (none_at_most zero l o (omega arith))
  enough (suc n) (suc m) l o within h k here =
      let at_end = λ (over : l.end ≤ o). none_at_most (suc n) l o over ∙ sym (none_at_most (suc m) l o over) in
      let before = λ (inside : o < l.end).
      one_more n l o inside
      ∙ ap (λ (xs : List TreeBox). (step B l o).found ∷ xs)
      (after_same (λ j e. boxes_at_most n B j e) (λ j e. boxes_at_most m B j e) l o (step B l o)
      (step_goes_on B l o within inside) within
      (λ j e fits less here. enough n m j e fits (omega arith) (omega arith) here) inside (step B l o).inner refl)
      ∙ sym (one_more m l o inside) in
      ⊎_elim before at_end (cases_lt o l.end)

  -- no boxes are at the end of a level
  pub boxes_none : (l : Level) (o : ℕ) → l.end ≤ o → boxes_in B l o ≡ []
  boxes_none l o h = none_at_most (l.end - o) l o h

  -- the boxes of a level starting at o are those of the step at o
  pub boxes_first : (l : Level) (o : ℕ) → l.end ≤ length B → o < l.end
      → boxes_in B l o ≡ boxes_by (λ m e. boxes_in B m e) (step B l o)
  boxes_first l o within inside =
      let k = l.end - o - 1 in
      let e : l.end - o ≡ suc k = omega arith in
      ap (λ (n : ℕ). boxes_at_most n B l o) e ∙ one_more k l o inside
      ∙ ap (λ (xs : List TreeBox). (step B l o).found ∷ xs)
      (after_same (λ j e. boxes_at_most k B j e) (λ j e. boxes_in B j e) l o (step B l o)
      (step_goes_on B l o within inside) within
      (λ j e fits less here. enough k (j.end - e) j e fits (omega arith) (omega arith) here) inside
      (step B l o).inner refl)
