-- The remaining boxes of a walk: those of its levels, from the innermost to the outermost.
use Rattle.std.proofs.Common.{◌≡◌, ℕ, ◌-◌, ◌<◌, ◌≤◌, List, [], ◌∷◌, ◌++◌, length, reverse, None, Some, refl, sym, ap}
use Rattle.std.proofs.Common.{◌∙◌, arith, append_assoc, append-nil, subst}
use Rattle.std.proofs.lemmas.List.{reverse-append}
use Rattle.std.specs.declared.option.Option.{Option}
use Rattle.mp4_walk.specs.FileBoxes.{GoesOn, StaysIn, step, boxes_after, boxes_in}
use Rattle.mp4_walk.specs.Walk.{Nested, Closes, unwound, with_inner}
use Rattle.mp4_walk.specs.declared.level.Level.{Level}
use Rattle.mp4_walk.specs.declared.step.Step.{Step}
use Rattle.mp4_walk.specs.declared.tree_box.TreeBox.{TreeBox}
use Rattle.mp4_walk.proofs.Steps.{boxes_none, boxes_first}

pub nested_within : (n at : ℕ) (ls : List Level) → Nested n at ls → at ≤ n
nested_within n at [] h = h
nested_within n at (l ∷ ls) h = let t = nested_within n l.end ls h.1 in omega (arith, h.0, t)

-- no boxes of a level remain at its end
unwound_over : (B : List ℕ) (at : ℕ) (l : Level) (ls : List Level) → at ≤ l.end → l.end ≤ at
    → unwound B at (l ∷ ls) ≡ unwound B at ls
unwound_over B at l ls h k =
    let e : l.end ≡ at = omega arith in
    ap (λ (xs : List TreeBox). xs ++ unwound B l.end ls) (boxes_none B l at k) ∙ ap (λ (o : ℕ). unwound B o ls) e

nested_over : (n at : ℕ) (l : Level) (ls : List Level) → Nested n at (l ∷ ls) → l.end ≤ at → Nested n at ls
nested_over n at l ls h k =
    let e : l.end ≡ at = omega (arith, h.0) in
    subst (λ (o : ℕ). Nested n o ls) e h.1

-- the innermost enclosing level is taken first
popped : (xs ys : List Level) (l : Level) → xs ≡ ys ++ l ∷ [] → reverse xs ≡ l ∷ reverse ys
popped xs ys l e = ap reverse e ∙ reverse-append ys (l ∷ [])

pub closes_none : (at : ℕ) (ls : List Level) → Closes at ls ls
closes_none at ls = record { nested = λ n h. h; same = λ B n h. refl }

-- closing one more level
pub closes_more : (at : ℕ) (were : List Level) (l m : Level) (around rest : List Level)
    → Closes at were (l ∷ reverse around) → l.end ≤ at → around ≡ rest ++ m ∷ [] → Closes at were (m ∷ reverse rest)
closes_more at were l m around rest closes over pop =
    let opened = popped around rest m pop in
    record {
      nested = λ n h. subst (Nested n at) opened (nested_over n at l (reverse around) (closes.nested n h) over);
      same = λ B n h. closes.same B n h ∙ unwound_over B at l (reverse around) (closes.nested n h).0 over
          ∙ ap (λ (ls : List Level). unwound B at ls) opened;
    }

-- closing the innermost of the remaining levels too
pub closes_over : (at : ℕ) (were : List Level) (l : Level) (ls : List Level) → Closes at were (l ∷ ls) → l.end ≤ at
    → Closes at were ls
closes_over at were l ls closes over = record {
  nested = λ n h. nested_over n at l ls (closes.nested n h) over;
  same = λ B n h. closes.same B n h ∙ unwound_over B at l ls (closes.nested n h).0 over;
}

-- no boxes remain if the last level is over
pub none_left : (B : List ℕ) (at : ℕ) (l : Level) (around : List Level) → l.end ≤ at → around ≡ []
    → unwound B at (l ∷ reverse around) ≡ []
none_left B at l around over none =
    ap (λ (ls : List Level). unwound B at (l ∷ reverse ls)) none ∙ append-nil (boxes_in B l at) ∙ boxes_none B l at over

after_unwound : (B : List ℕ) (s : Step) (ls : List Level) (l : Level) → s.level.end ≡ l.end → (inner : Option Level)
    → unwound B s.at (with_inner inner (s.level ∷ ls)) ≡ boxes_after (λ m e. boxes_in B m e) s.level s.at inner
    ++ unwound B l.end ls
after_unwound B s ls l ends None = ap (λ (e : ℕ). boxes_in B s.level s.at ++ unwound B e ls) ends
after_unwound B s ls l ends (Some m) =
    ap (λ (e : ℕ). boxes_in B m s.at ++ (boxes_in B s.level m.end ++ unwound B e ls)) ends
    ∙ sym (append_assoc (boxes_in B m s.at) (boxes_in B s.level m.end) (unwound B l.end ls))

-- the remaining boxes are the box of a step, then the boxes that remain after it
pub unwound_step : (B : List ℕ) (at : ℕ) (l : Level) (ls : List Level) (s : Step) → s ≡ step B l at
    → s.level.end ≡ l.end → l.end ≤ length B → at < l.end
    → unwound B at (l ∷ ls) ≡ s.found ∷ unwound B s.at (with_inner s.inner (s.level ∷ ls))
unwound_step B at l ls s is ends within inside =
    ap (λ (xs : List TreeBox). xs ++ unwound B l.end ls)
    (boxes_first B l at within inside
    ∙ ap (λ (t : Step). t.found ∷ boxes_after (λ m e. boxes_in B m e) t.level t.at t.inner) (sym is))
    ∙ ap (λ (xs : List TreeBox). s.found ∷ xs) (sym (after_unwound B s ls l ends s.inner))

nested_inner : (n end at : ℕ) (m : Level) (ls : List Level) (inner : Option Level) → m.end ≡ end → StaysIn end at inner
    → Nested n end ls → Nested n at (with_inner inner (m ∷ ls))
nested_inner n end at m ls None is stays h = (omega (arith, is, stays), subst (λ (e : ℕ). Nested n e ls) (sym is) h)
nested_inner n end at m ls (Some i) is stays h =
    (stays.0, (omega (arith, is, stays.1), subst (λ (e : ℕ). Nested n e ls) (sym is) h))

pub nested_step : (n at : ℕ) (l : Level) (ls : List Level) (s : Step) → Nested n at (l ∷ ls) → GoesOn l at s
    → Nested n s.at (with_inner s.inner (s.level ∷ ls))
nested_step n at l ls s h goes = nested_inner n l.end s.at s.level ls s.inner goes.2 goes.1 h.1

-- if all levels are over, no boxes remained
pub none_comes : (B : List ℕ) (n at : ℕ) (l m : Level) (around rest : List Level) → Nested n at (l ∷ reverse around)
    → Closes at (l ∷ reverse around) (m ∷ reverse rest) → m.end ≤ at → rest ≡ []
    → (unwound B at (l ∷ reverse around) ≡ []) × (unwound B at (m ∷ reverse rest) ≡ [])
none_comes B n at l m around rest nested closes over none =
    let gone = none_left B at m rest over none in
    (closes.same B n nested ∙ gone, gone)

-- the level that continues ends within the bytes
pub level_within : (n at : ℕ) (l m : Level) (around rest : List Level) → Nested n at (l ∷ reverse around)
    → Closes at (l ∷ reverse around) (m ∷ reverse rest) → m.end ≤ n
level_within n at l m around rest nested closes = nested_within n m.end (reverse rest) (closes.nested n nested).1

-- a step returns the first of the remaining boxes
pub step_comes : (B : List ℕ) (n at : ℕ) (l m i : Level) (around rest inner : List Level) (s : Step)
    → Nested n at (l ∷ reverse around) → Closes at (l ∷ reverse around) (m ∷ reverse rest) → at < m.end → n ≡ length B
    → s ≡ step B m at → GoesOn m at s → i ∷ reverse inner ≡ with_inner s.inner (s.level ∷ reverse rest)
    → unwound B at (l ∷ reverse around) ≡ s.found ∷ unwound B s.at (i ∷ reverse inner)
step_comes B n at l m i around rest inner s nested closes inside long is goes on =
    closes.same B n nested
    ∙ unwound_step B at m (reverse rest) s is goes.2
    (let t = level_within n at l m around rest nested closes in omega (arith, t, long)) inside
    ∙ ap (λ (ls : List Level). s.found ∷ unwound B s.at ls) (sym on)

-- a step takes some of the remaining bytes
pub step_takes : (n at : ℕ) (l m : Level) (around rest : List Level) (s : Step) → Nested n at (l ∷ reverse around)
    → Closes at (l ∷ reverse around) (m ∷ reverse rest) → GoesOn m at s → n - s.at < n - at
step_takes n at l m around rest s nested closes goes =
    let was = closes.nested n nested in
    let is = nested_within n s.at (with_inner s.inner (s.level ∷ reverse rest))
    (nested_step n at m (reverse rest) s was goes) in
    omega (arith, goes.0, is)
