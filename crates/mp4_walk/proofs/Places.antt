-- Each box is at the top level or in the content of an earlier box, and it is a frame there if it is whole.
use Rattle.std.proofs.Common.{◌≡◌, ℕ, zero, suc, ◌+◌, ◌-◌, ◌^◌, ◌<◌, ◌≤◌, Bool, true, false, cond, List, [], ◌∷◌}
use Rattle.std.proofs.Common.{length, take, None, Some, refl, sym, ap, ◌∙◌, arith, subst, inl, inr}
use Rattle.std.specs.Prelude.{nat_le, All}
use Rattle.std.specs.List.{Contains}
use Rattle.std.specs.declared.option.Option.{Option}
use Rattle.std.proofs.lemmas.Bool.{leb-false}
use Rattle.std.proofs.lemmas.List.Elements.{All-nil, All-cons, All-append, Contains-append_left, Contains-append_right}
use Rattle.mp4_frame.specs.Heads.{frame}
use Rattle.mp4_walk.specs.Found.{found_at, end_within}
use Rattle.mp4_walk.specs.Places.{IsAround, IsFrame, IsPlaced}
use Rattle.mp4_walk.specs.FileBoxes.{StaysIn, step, boxes_after, boxes_at_most, boxes_of, top}
use Rattle.mp4_walk.specs.declared.level.Level.{Level}
use Rattle.mp4_walk.specs.declared.step.Step.{Step}
use Rattle.mp4_walk.specs.declared.tree_box.TreeBox.{TreeBox}
use Rattle.mp4_walk.proofs.Frames.{IsAt, LeadsTo, IsStepOf, IsOfFrame, found_is_at, step_is, found_whole}
use Rattle.mp4_walk.proofs.Steps.{step_goes_on, found_after}

-- the level inside a box is one deeper, starts after the header and ends with the box or before it
abbrev IsInside : TreeBox → ℕ → Option Level → Type 0
IsInside x at None = Unit {0}
IsInside x at (Some m) = (m.depth ≡ x.depth + 1) × (x.position + 8 ≤ at) × (m.end ≤ x.position + x.length)

inside_by : (l : Level) (o : ℕ) (x : TreeBox) (s : Step) → IsStepOf l o x s → IsAt l o x → (inner : Option Level)
    → LeadsTo l x s.at inner → IsInside s.found s.at inner
inside_by l o x s is here None leads = tt
inside_by l o x s is here (Some m) leads =
    let after = here.header leads.3 in (
      omega (arith, leads.0, is.depth),
      omega (arith, is.position, after, leads.2),
      omega (arith, leads.1, is.position, is.long, here.position),
    )

frame_by : (own : List ℕ) (l : Level) (o : ℕ) (x : TreeBox) (s : Step) → IsStepOf l o x s → o < end_within l x
    → IsOfFrame l o x (frame own o) → IsFrame own s.found
frame_by own l o x s is after f = (
  f.0,
  ap (λ (k : ℕ). frame own k) is.position ∙ f.1,
  is.code ∙ f.2,
  omega (arith, is.position, is.long, f.3, f.4, after),
)

module _ (B : List ℕ) (short : length B < 2 ^ 64) (all : List TreeBox) where
  -- the level encloses all positions starting at o
  abbrev AroundFrom : Level → ℕ → Type 0
  AroundFrom l o = (e : ℕ) → o ≤ e → IsAround B all l.depth l.end e

  -- these are among the boxes
  abbrev Among : List TreeBox → Type 0
  Among xs = (x : TreeBox) → Contains xs x → Contains all x

  if_not_over : (b : Bool) (xs : List TreeBox) → Among (cond b [] xs) → (b ≡ false → Among xs → All (IsPlaced B all) xs)
      → All (IsPlaced B all) (cond b [] xs)
  if_not_over true xs among f = All-nil (IsPlaced B all)
  if_not_over false xs among f = f refl among

  same_around : (l m : Level) (o : ℕ) → m.depth ≡ l.depth → m.end ≡ l.end → AroundFrom l o → AroundFrom m o
  same_around l m o depth end around e after =
      subst (λ (d : ℕ). IsAround B all d m.end e) (sym depth)
      (subst (λ (k : ℕ). IsAround B all l.depth k e) (sym end) (around e after))

  placed_after : (boxes : Level → ℕ → List TreeBox)
      → ((m : Level) (e : ℕ) → m.end ≤ length B → AroundFrom m e → Among (boxes m e) → All (IsPlaced B all) (boxes m e))
      → (l : Level) (x : TreeBox) (at : ℕ) (inner : Option Level) → l.end ≤ length B → StaysIn l.end at inner
      → IsInside x at inner → AroundFrom l at → Contains all x → Among (boxes_after boxes l at inner)
      → All (IsPlaced B all) (boxes_after boxes l at inner)
  placed_after boxes each l x at None within stays inside around here among = each l at within around among
  placed_after boxes each l x at (Some m) within stays inside around here among =
      All-append (IsPlaced B all) (boxes m at) (boxes l m.end)
      (each m at (omega (arith, stays.1, within))
      (λ e after. inr (x, here, inside.0, omega (arith, inside.1, after), inside.2))
      (λ y mem. among y (Contains-append_left (boxes m at) (boxes l m.end) y mem)))
      (each l m.end within (λ e after. around e (omega (arith, stays.0, after)))
      (λ y mem. among y (Contains-append_right (boxes m at) (boxes l m.end) y mem)))

  -- the boxes of a level starting at o are placed
  placed_at_most : (n : ℕ) (l : Level) (o : ℕ) → l.end ≤ length B → AroundFrom l o → Among (boxes_at_most n B l o)
      → All (IsPlaced B all) (boxes_at_most n B l o)
  unfolding boxes_at_most
  placed_at_most zero l o within around among = All-nil (IsPlaced B all)
  placed_at_most (suc n) l o within around among =
      let s = step B l o in
      let x = found_at B l o in
      let boxes = λ (m : Level) (e : ℕ). boxes_at_most n B m e in
      let rest = boxes_after boxes s.level s.at s.inner in
      if_not_over (nat_le l.end o) (s.found ∷ rest) among
      (λ before found.
      let inside : o < l.end = leb-false l.end o before in
      let is = step_is B l o in
      let goes = step_goes_on B l o within inside in
      let after = found_after B l o within inside in
      let here : IsAround B all s.found.depth l.end s.found.position =
      subst (λ (k : ℕ). IsAround B all s.found.depth l.end k) (sym is.position)
      (subst (λ (d : ℕ). IsAround B all d l.end o) (sym is.depth) (around o (omega arith))) in
      let stands : IsPlaced B all s.found = (
        l.end,
        here,
        omega (arith, is.position, inside),
        within,
        (λ whole. frame_by (take l.end B) l o x s is (omega (arith, after.0, after.1, after.2))
            (found_whole B short l o within inside (sym is.whole ∙ whole))),
      ) in
      let stays : StaysIn s.level.end s.at s.inner =
      subst (λ (e : ℕ). StaysIn e s.at s.inner) (sym is.level_end) goes.1 in
      All-cons (IsPlaced B all) s.found rest stands
      (placed_after boxes (λ m e. placed_at_most n m e) s.level s.found s.at s.inner
      (omega (arith, is.level_end, within)) stays
      (inside_by l o x s is (found_is_at B l o) s.inner is.leads)
      (same_around l s.level s.at is.level_depth is.level_end (λ e later. around e (omega (arith, goes.0, later))))
      (found s.found (0, omega arith, refl))
      (λ y mem. found y (Contains-append_right (s.found ∷ []) rest y mem))))

-- every box of a file is placed among them
pub placed : (B : List ℕ) → length B < 2 ^ 64 → All (IsPlaced B (boxes_of B)) (boxes_of B)
placed B short = placed_at_most B short (boxes_of B) (length B - 0) (top (length B)) 0 (omega arith)
    (λ e after. inl (refl, refl)) (λ x mem. mem)
