-- The names that codes are read as.
use Rattle.std.proofs.Common.{◌≡◌, ℕ, Bool, true, false, cond, not, ◌||◌, eqb, List, [], ◌∷◌, inl, inr, refl, ap, ◌∙◌}
use Rattle.std.proofs.lemmas.Bool.{and_parts, not-true, cases_Bool}
use Rattle.std.specs.List.{list_any, list_all}
use Rattle.mp4_frame.specs.BoxType.{named_codes, look_up, name_of, is_disguised, name_of-code_of}
use Rattle.mp4_frame.specs.declared.box_type.BoxType.{BoxType}
use Rattle.mp4_frame.specs.declared.box_type.BoxType.TheVariants as names

-- The name is an UnknownBox.
abbrev pub is_unknown : BoxType → Bool
is_unknown (names.UnknownBox n) = true
is_unknown _ = false

chosen : (b r : Bool) (x y : BoxType) → is_unknown x ≡ false → is_unknown y ≡ not r
    → is_unknown (cond b x y) ≡ not (b || r)
chosen true r x y p q = p
chosen false r x y p q = q

look_up_named : (cs : List (ℕ × BoxType)) (n : ℕ) → list_all (λ c. not (is_unknown c.1)) cs ≡ true
    → is_unknown (look_up cs n) ≡ not (list_any (λ c. eqb n c.0) cs)
look_up_named [] n h = refl
look_up_named (c ∷ cs) n h =
    let p = and_parts (not (is_unknown c.1)) (list_all (λ c. not (is_unknown c.1)) cs) h in
    chosen (eqb n c.0) (list_any (λ c. eqb n c.0) cs) c.1 (look_up cs n) (not-true (is_unknown c.1) p.0)
    (look_up_named cs n p.1)

-- A number is read as an UnknownBox unless it is a named code.
pub unknown_name : (n : ℕ) → is_unknown (name_of n) ≡ not (is_disguised (names.UnknownBox n))
unfolding name_of
unknown_name n = look_up_named named_codes n refl

not_disguised : (name : BoxType) → is_unknown name ≡ false → is_disguised name ≡ false
not_disguised (names.UnknownBox n) h = absurd cc
not_disguised _ h = refl

-- No code is read as an UnknownBox that holds a named code.
pub plain_name : (n : ℕ) → is_disguised (name_of n) ≡ false
plain_name n =
    elim (cases_Bool (is_disguised (names.UnknownBox n))) [
      | inl named ↦ not_disguised (name_of n) (unknown_name n ∙ ap not named)
      | inr unnamed ↦ ap is_disguised (name_of-code_of (names.UnknownBox n) unnamed) ∙ unnamed
    ]
