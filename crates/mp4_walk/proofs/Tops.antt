-- The whole boxes of depth 0 among those of a file are the frames of its top level, up to the first fault.
use Rattle.std.proofs.Common.{◌≡◌, ℕ, zero, suc, ◌-◌, ◌^◌, ◌<◌, Bool, true, false, cond, List, [], ◌∷◌, ◌++◌, length}
use Rattle.std.proofs.Common.{take, None, Some, Result, refl, sym, ap, ◌∙◌, arith, subst}
use Rattle.std.specs.Prelude.{nat_le, ◌==◌, ◌&&◌}
use Rattle.std.specs.declared.option.Option.{Option}
use Rattle.std.proofs.lemmas.Bool.{cond_both, leb-false, ne_eqb}
use Rattle.std.proofs.lemmas.Grind.{flat_map-append}
use Rattle.std.proofs.lemmas.List.{take_all}
use Rattle.mp4_frame.specs.FourCC.{four_cc_of}
use Rattle.mp4_frame.specs.Heads.{frame}
use Rattle.mp4_frame.specs.Reading.{Fault}
use Rattle.mp4_frame.specs.declared.frame.Frame.{Frame}
use Rattle.mp4_frame.specs.declared.four_cc.FourCC.{FourCC}
use Rattle.mp4_walk.specs.Found.{found_at, end_within}
use Rattle.mp4_walk.specs.Tops.{Span, span_of, framed, frames_at_most, top_frames, is_whole, place_of, top_box}
use Rattle.mp4_walk.specs.Tops.{top_boxes}
use Rattle.mp4_walk.specs.FileBoxes.{step, boxes_after, boxes_by, boxes_at_most, boxes_of, top}
use Rattle.mp4_walk.specs.declared.level.Level.{Level}
use Rattle.mp4_walk.specs.declared.step.Step.{Step}
use Rattle.mp4_walk.specs.declared.tree_box.TreeBox.{TreeBox}
use Rattle.mp4_walk.proofs.Frames.{LeadsTo, IsStepOf, IsOfFrame, IsOfNone, step_is, found_whole, found_none}

-- a deeper box is not at the top level
deep_box : (x : TreeBox) → 0 < x.depth → top_box x ≡ []
deep_box x h = let t : (x.depth == 0) ≡ false = ne_eqb x.depth 0 (λ e. absurd (omega (arith, h, e))) in rw t refl

none_of_both : (xs ys : List TreeBox) → top_boxes xs ≡ [] → top_boxes ys ≡ [] → top_boxes (xs ++ ys) ≡ []
none_of_both xs ys e f = flat_map-append top_box xs ys ∙ ap (λ (zs : List Span). zs ++ top_boxes ys) e ∙ f

-- no box of a deeper level is at the top level
no_tops : (B : List ℕ) (n : ℕ) (l : Level) (o : ℕ) → 0 < l.depth → top_boxes (boxes_at_most n B l o) ≡ []
unfolding boxes_at_most
no_tops B zero l o h = refl
no_tops B (suc n) l o h =
    let s = step B l o in
    let x = found_at B l o in
    let is : IsStepOf l o x s = step_is B l o in
    let first : top_box s.found ≡ [] = deep_box s.found (omega (arith, is.depth, h)) in
    let after : (inner : Option Level) → LeadsTo l x s.at inner
    → top_boxes (boxes_after (λ m e. boxes_at_most n B m e) s.level s.at inner) ≡ [] =
    λ inner. elim inner as
    (λ i. LeadsTo l x s.at i → top_boxes (boxes_after (λ m e. boxes_at_most n B m e) s.level s.at i) ≡ []) [
      | None ↦ (λ _. no_tops B n s.level s.at (omega (arith, is.level_depth, h)))
      | Some m ↦ (λ deeper.
          none_of_both (boxes_at_most n B m s.at) (boxes_at_most n B s.level m.end)
          (no_tops B n m s.at (omega (arith, deeper.0))) (no_tops B n s.level m.end (omega (arith, is.level_depth, h))))
    ] in
    cond_both (nat_le l.end o) [] (boxes_by (λ m e. boxes_at_most n B m e) s) (λ xs. top_boxes xs ≡ [])
    (λ _. refl)
    (λ _. ap (λ (zs : List Span). zs ++ top_boxes (boxes_after (λ m e. boxes_at_most n B m e) s.level s.at s.inner))
    first ∙ after s.inner is.leads)

-- a whole box at the top level is listed with its code
whole_box : (x : TreeBox) (code : FourCC) → x.depth ≡ 0 → is_whole x.state ≡ true → x.code ≡ Some code
    → top_box x ≡ record { position = x.position; length = x.length; code = code } ∷ []
whole_box x code depth whole named = rw (depth, whole, named) refl

not_whole : (x : TreeBox) → is_whole x.state ≡ false → top_box x ≡ []
not_whole x whole = none_by (x.depth == 0)
  where
    none_by : (b : Bool) → cond (b && is_whole x.state) (place_of x x.code) [] ≡ []
    none_by true = rw whole refl
    none_by false = refl

frames_over : (B : List ℕ) (n : ℕ) → frames_at_most n B (length B) ≡ []
unfolding frames_at_most
frames_over B zero = refl
frames_over B (suc n) =
    cond_both (nat_le (length B) (length B)) [] _ (λ (xs : List Span). xs ≡ []) (λ _. refl)
    (λ e. absurd (omega (arith, leb-false _ _ e)))

module _ (B : List ℕ) (short : length B < 2 ^ 64) (n : ℕ)
    (ih : (l : Level) (e : ℕ) → l.depth ≡ 0 → l.end ≡ length B
    → top_boxes (boxes_at_most n B l e) ≡ frames_at_most n B e) where
  abbrev boxes : Level → ℕ → List TreeBox
  boxes m e = boxes_at_most n B m e

  -- the boxes after a step are the frames after its box
  after_step : (l m : Level) (x : TreeBox) (at : ℕ) → l.depth ≡ 0 → l.end ≡ length B → m.depth ≡ 0 → m.end ≡ length B
      → (inner : Option Level) → LeadsTo l x at inner
      → top_boxes (boxes_after boxes m at inner) ≡ frames_at_most n B (end_within l x)
  after_step l m x at top ends depth end None leads = ih m at depth end ∙ ap (λ (e : ℕ). frames_at_most n B e) leads
  after_step l m x at top ends depth end (Some i) leads =
      flat_map-append top_box (boxes i at) (boxes m i.end)
      ∙ ap (λ (zs : List Span). zs ++ top_boxes (boxes m i.end)) (no_tops B n i at (omega (arith, leads.0)))
      ∙ ih m i.end depth end
      ∙ ap (λ (e : ℕ). frames_at_most n B e) leads.1

  by_whole : (l : Level) (o : ℕ) (x : TreeBox) (s : Step) → l.depth ≡ 0 → l.end ≡ length B → IsStepOf l o x s
      → (w : Bool) → is_whole x.state ≡ w
      → (is_whole x.state ≡ true → IsOfFrame l o x (frame B o))
      → (is_whole x.state ≡ false → IsOfNone l x (frame B o))
      → top_boxes (boxes_by boxes s) ≡ framed (λ e. frames_at_most n B e) o (frame B o)
  by_whole l o x s top ends is true w whole none =
      let f = whole w in
      let code : s.found.code ≡ Some (four_cc_of f.0.code) = is.code ∙ f.2 in
      let here : top_box s.found ≡ span_of o f.0 ∷ [] =
      whole_box s.found (four_cc_of f.0.code) (is.depth ∙ top) (is.whole ∙ w) code
      ∙ ap (λ (k : ℕ). record { position = k; length = s.found.length; code = four_cc_of f.0.code } ∷ [])
      is.position
      ∙ ap (λ (k : ℕ). record { position = o; length = k; code = four_cc_of f.0.code } ∷ [])
      (is.long ∙ f.3) in
      ap (λ (zs : List Span). zs ++ top_boxes (boxes_after boxes s.level s.at s.inner)) here
      ∙ ap (λ (zs : List Span). span_of o f.0 ∷ zs)
      (after_step l s.level x s.at top ends (is.level_depth ∙ top) (is.level_end ∙ ends) s.inner is.leads)
      ∙ ap (λ (e : ℕ). span_of o f.0 ∷ frames_at_most n B e) f.4
      ∙ ap (λ (r : Result Frame Fault). framed (λ e. frames_at_most n B e) o r) (sym f.1)
  by_whole l o x s top ends is false w whole none =
      let k = none w in
      ap (λ (zs : List Span). zs ++ top_boxes (boxes_after boxes s.level s.at s.inner))
      (not_whole s.found (is.whole ∙ w))
      ∙ after_step l s.level x s.at top ends (is.level_depth ∙ top) (is.level_end ∙ ends) s.inner is.leads
      ∙ ap (λ (e : ℕ). frames_at_most n B e) (k.1 ∙ ends)
      ∙ frames_over B n
      ∙ ap (λ (r : Result Frame Fault). framed (λ e. frames_at_most n B e) o r) (sym k.0.1)

  pub same_here : (l : Level) (o : ℕ) → l.depth ≡ 0 → l.end ≡ length B → o < length B
      → top_boxes (boxes_by boxes (step B l o)) ≡ framed (λ e. frames_at_most n B e) o (frame B o)
  same_here l o top ends inside =
      let x = found_at B l o in
      let all : take l.end B ≡ B = take_all l.end B (omega (arith, ends)) in
      by_whole l o x (step B l o) top ends (step_is B l o) (is_whole x.state) refl
      (λ w. subst (λ (xs : List ℕ). IsOfFrame l o x (frame xs o)) all
      (found_whole B short l o (omega (arith, ends)) (omega (arith, ends)) w))
      (λ w. subst (λ (xs : List ℕ). IsOfNone l x (frame xs o)) all
      (found_none B short l o (omega (arith, ends)) (omega (arith, ends)) top w))

cond_same : (b c : Bool) (xs : List TreeBox) (ys : List Span) → b ≡ c → (c ≡ false → top_boxes xs ≡ ys)
    → top_boxes (cond b [] xs) ≡ cond c [] ys
cond_same true c xs ys e f = rw (sym e) refl
cond_same false c xs ys e f = rw (sym e) (f (sym e))

tops_at_most : (B : List ℕ) → length B < 2 ^ 64 → (n : ℕ) (l : Level) (o : ℕ) → l.depth ≡ 0 → l.end ≡ length B
    → top_boxes (boxes_at_most n B l o) ≡ frames_at_most n B o
unfolding boxes_at_most frames_at_most
tops_at_most B short zero l o top ends = refl
tops_at_most B short (suc n) l o top ends =
    cond_same (nat_le l.end o) (nat_le (length B) o) _ _ (ap (λ (e : ℕ). nat_le e o) ends)
    (λ before. same_here B short n (λ m e. tops_at_most B short n m e) l o top ends (leb-false _ _ before))

-- the whole boxes of the top level are all frames, in order
pub tops : (B : List ℕ) → length B < 2 ^ 64 → top_boxes (boxes_of B) ≡ top_frames B
tops B short = (let e : length B - 0 ≡ length B =
    omega arith in ap (λ (n : ℕ). top_boxes (boxes_at_most n B (top (length B)) 0)) e)
    ∙ tops_at_most B short (length B) (top (length B)) 0 refl refl
