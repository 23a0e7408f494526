-- Lists of splices, and a file after splices, one after the other.
use Rattle.std.proofs.Common.{◌≡◌, ℕ, ◌+◌, ◌-◌, ◌<◌, ◌≤◌, Bool, true, false, cond, List, [], ◌∷◌, ◌++◌, length, take}
use Rattle.std.proofs.Common.{drop, get_or, None, Some, sym, ap, subst, ◌∙◌}
use Rattle.std.proofs.lemmas.List.{append-nil, append_assoc, drop_all, drop_more, take_all, take_more, take_rest}
use Rattle.std.proofs.lemmas.List.Elements.{All-push, filter_more}
use Rattle.std.specs.List.{AllZip}
use Rattle.std.specs.Prelude.{All, IfSome, filter}
use Rattle.std.specs.declared.option.Option.{Option}
use Rattle.mp4_walk.specs.FileBoxes.{boxes_of}
use Rattle.mp4_walk.specs.Source.{piece}
use Rattle.mp4_walk.specs.declared.tree_box.TreeBox.{TreeBox}
use Rattle.mp4_remux.specs.Edits.{IsSpliceOf}
use Rattle.mp4_remux.specs.Pieces.{spelled}
use Rattle.mp4_remux.specs.Splices.{AreAfter, spliced, spliced_from}
use Rattle.mp4_remux.specs.declared.edits.edit.Edit.{Edit}
use Rattle.mp4_remux.specs.declared.edits.splice.Splice.{Splice}
use Rattle.mp4_remux.specs.declared.pieces.piece.Piece.{Piece}

-- one more pair
pub zip_push : {X Y : Type 0} (R : X → Y → Type 0) (xs : List X) (ys : List Y) (x : X) (y : Y) → AllZip R xs ys
    → R x y → AllZip R (xs ++ x ∷ []) (ys ++ y ∷ [])
zip_push R [] [] x y h r = (r, tt)
zip_push R [] (b ∷ ys) x y h r = absurd h
zip_push R (a ∷ xs) [] x y h r = absurd h
zip_push R (a ∷ xs) (b ∷ ys) x y h r = (h.0, zip_push R xs ys x y h.1 r)

module _ {X : Type 0} (P : X → Type 0) (xs : List X) (i : ℕ) where
  -- one more element has the property
  pub all_more : (d : X) → i < length xs → All P (take i xs) → P (get_or xs i d) → All P (take (i + 1) xs)
  all_more d within so_far here =
      subst (λ (l : List X). All P l) (sym (take_more xs i d within))
      (All-push P (take i xs) (get_or xs i d) so_far here)

  -- all elements have it
  pub all_end : length xs ≤ i → All P (take i xs) → All P xs
  all_end gone so_far = subst (λ (l : List X). All P l) (take_all i xs gone) so_far

-- the next splice is after the one before
pub after_more : (n at depth : ℕ) (ss : List Splice) (i : ℕ) (d : Splice) → i < length ss
    → at ≤ (get_or ss i d).begin → (at ≡ (get_or ss i d).begin → (get_or ss i d).depth ≤ depth)
    → (get_or ss i d).begin ≤ (get_or ss i d).end
    → AreAfter n (get_or ss i d).end (get_or ss i d).depth (drop (i + 1) ss) → AreAfter n at depth (drop i ss)
after_more n at depth ss i d within low deep long rest =
    subst (λ (ts : List Splice). AreAfter n at depth ts) (sym (drop_more ss i d within)) (low, deep, long, rest)

pub after_none : (n at depth : ℕ) (ss : List Splice) (i : ℕ) → length ss ≤ i → at ≤ n → AreAfter n at depth (drop i ss)
after_none n at depth ss i gone small =
    subst (λ (ts : List Splice). AreAfter n at depth ts) (sym (drop_all i ss gone)) small

-- no piece is planned yet
pub no_piece : (ps : List Piece) (ss : List Splice) → ps ≡ [] → (B : List ℕ)
    → spelled B ps ++ spliced_from B 0 ss ≡ spliced B ss
unfolding spelled
no_piece ps ss none B = ap (λ (qs : List Piece). spelled B qs ++ spliced_from B 0 ss) none

-- the bytes up to a splice are planned, and its own
pub one_splice : (B : List ℕ) (ps qs : List Piece) (at : ℕ) (s : Splice) (ss rest : List Splice) (R : List ℕ)
    → ss ≡ s ∷ rest → spelled B qs ≡ spelled B ps ++ piece B at (s.begin - at) ++ s.bytes.items
    → spelled B ps ++ spliced_from B at ss ≡ R → spelled B qs ++ spliced_from B s.end rest ≡ R
one_splice B ps qs at s ss rest R is push so_far =
    let front = spelled B ps in
    let old = piece B at (s.begin - at) in
    let new = s.bytes.items in
    let after = spliced_from B s.end rest in
    ap (λ (xs : List ℕ). xs ++ after) push
    ∙ append_assoc (front ++ old) new after
    ∙ append_assoc front old (new ++ after)
    ∙ ap (λ (xs : List ℕ). front ++ xs) (sym (append_assoc old new after))
    ∙ ap (λ (ts : List Splice). front ++ spliced_from B at ts) (sym is)
    ∙ so_far

-- the bytes after the last splice are planned
pub last_piece : (B : List ℕ) (ps qs : List Piece) (at n : ℕ) (ss : List Splice) (R : List ℕ) → n ≡ length B
    → ss ≡ [] → spelled B qs ≡ spelled B ps ++ take (n - at) (drop at B)
    → spelled B ps ++ spliced_from B at ss ≡ R → spelled B qs ≡ R
last_piece B ps qs at n ss R long gone push so_far =
    push
    ∙ ap (λ (xs : List ℕ). spelled B ps ++ xs) (ap (λ (k : ℕ). take (k - at) (drop at B)) long ∙ take_rest B at)
    ∙ ap (λ (ts : List Splice). spelled B ps ++ spliced_from B at ts) (sym gone)
    ∙ so_far

-- the splices of those of the edits es that pass the test, if the bytes of the file are known
abbrev pub AreSplicesOf : Option (List ℕ) → List TreeBox → (Edit → Bool) → List Edit → List Splice → Type 0
AreSplicesOf r boxes p es ss = IfSome r (λ B. boxes ≡ boxes_of B → AllZip (IsSpliceOf B) (filter p es) ss)

module _ (boxes : List TreeBox) (p : Edit → Bool) (es : List Edit) (i : ℕ) (d e : Edit) (within : i < length es)
    (is : e ≡ get_or es i d) where
  tested : (b : Bool) → p e ≡ b → filter p (take (i + 1) es) ≡ filter p (take i es) ++ cond b (e ∷ []) []
  tested b test =
      filter_more p es i d within
      ∙ ap (λ (f : Edit). filter p (take i es) ++ cond (p f) (f ∷ []) []) (sym is)
      ∙ ap (λ (c : Bool). filter p (take i es) ++ cond c (e ∷ []) []) test

  known_more : (r : Option (List ℕ)) (ss : List Splice) (s : Splice) → p e ≡ true
      → IfSome r (λ B. boxes ≡ boxes_of B → IsSpliceOf B e s) → AreSplicesOf r boxes p (take i es) ss
      → AreSplicesOf r boxes p (take (i + 1) es) (ss ++ s ∷ [])
  known_more None ss s test here so_far = tt
  known_more (Some B) ss s test here so_far = λ are.
      subst (λ (fs : List Edit). AllZip (IsSpliceOf B) fs (ss ++ s ∷ [])) (sym (tested true test))
      (zip_push (IsSpliceOf B) (filter p (take i es)) ss e s (so_far are) (here are))

  -- the next edit passes the test, and has this splice
  pub splice_more : (o r : Option (List ℕ)) (ss ts : List Splice) (s : Splice) → p e ≡ true → o ≡ r
      → ts ≡ ss ++ s ∷ [] → IfSome o (λ B. boxes ≡ boxes_of B → IsSpliceOf B e s)
      → AreSplicesOf r boxes p (take i es) ss → AreSplicesOf r boxes p (take (i + 1) es) ts
  splice_more o r ss ts s test same more here so_far =
      subst (λ (us : List Splice). AreSplicesOf r boxes p (take (i + 1) es) us) (sym more)
      (known_more r ss s test
      (subst (λ (q : Option (List ℕ)). IfSome q (λ B. boxes ≡ boxes_of B → IsSpliceOf B e s)) same here) so_far)

  -- it doesn't pass
  pub splice_same : (r : Option (List ℕ)) (ss ts : List Splice) → p e ≡ false → ts ≡ ss
      → AreSplicesOf r boxes p (take i es) ss → AreSplicesOf r boxes p (take (i + 1) es) ts
  splice_same r ss ts test same so_far =
      subst (λ (us : List Splice). AreSplicesOf r boxes p (take (i + 1) es) us) (sym same)
      (subst (λ (fs : List Edit). IfSome r (λ B. boxes ≡ boxes_of B → AllZip (IsSpliceOf B) fs ss))
      (sym (tested false test ∙ append-nil (filter p (take i es)))) so_far)
