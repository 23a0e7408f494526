-- The laws of faults that are written as lines or as objects: they may be written in parts.
use Rattle.std.proofs.Common.{◌≡◌, ℕ, Bool, true, List, [], ◌∷◌, ◌++◌, refl, sym, ap, subst, ◌∙◌, append_assoc}
use Rattle.std.proofs.KnownBytes.{Appends-nil, Appends-trans}
use Rattle.std.proofs.lemmas.List.Sums.{fold-append}
use Rattle.std.specs.Io.KnownBytes.{Appends}
use Rattle.std.specs.declared.option.Option.{Option}
use Rattle.mp4_check.specs.FaultValues.{Value}
use Rattle.mp4_check.specs.Lines.{AreShown, Writes, between, severity_at, told_after, told_all}
use Rattle.mp4_check.specs.declared.lines.Form.{Form}
use Rattle.mp4_check.specs.declared.lines.Told.{Told}

abbrev any_after : Bool → List Value → Bool
any_after any [] = any
any_after any (v ∷ vs) = true

after_one : (vs : List Value) → any_after true vs ≡ true
after_one [] = refl
after_one (v ∷ vs) = refl

any_is : (told : Told) (vs : List Value) → (told_all told vs).any ≡ any_after told.any vs
any_is told [] = refl
any_is told (v ∷ vs) = any_is (told_after told (severity_at v)) vs ∙ after_one vs

shown_append : (form : Form) (any : Bool) (vs ws : List Value) (one other : List ℕ) → AreShown form any vs one
    → AreShown form (any_after any vs) ws other → AreShown form any (vs ++ ws) (one ++ other)
shown_append form any [] ws one other none shown =
    subst (λ (text : List ℕ). AreShown form any ws text) (sym (ap (λ (xs : List ℕ). xs ++ other) none)) shown
shown_append form any (v ∷ vs) ws one other (first, rest, is, are, text) shown = (
  first,
  rest ++ other,
  is,
  shown_append form true vs ws rest other are
      (subst (λ (b : Bool). AreShown form b ws other) (sym (after_one vs)) shown),
  ap (λ (xs : List ℕ). xs ++ other) text
      ∙ append_assoc (between form any) (first ++ rest) other
      ∙ ap (λ (xs : List ℕ). between form any ++ xs) (append_assoc first rest other),
)

told_append : (told : Told) (vs ws : List Value) → told_all told (vs ++ ws) ≡ told_all (told_all told vs) ws
told_append told vs ws = fold-append (λ (t : Told) (v : Value). told_after t (severity_at v)) told vs ws

-- No fault is written.
pub writes_none : (form : Form) (told : Told) (old : Option (List ℕ)) → Writes form told [] old old told
writes_none form told old = ([], refl, Appends-nil old, refl)

-- Some faults are written, and then others.
pub writes_more : (form : Form) (told between now : Told) (vs ws : List Value) (a b c : Option (List ℕ))
    → Writes form told vs a b between → Writes form between ws b c now → Writes form told (vs ++ ws) a c now
writes_more form told between now vs ws a b c (one, shown, put, is) (other, shown_then, put_then, is_then) = (
  one ++ other,
  shown_append form told.any vs ws one other shown
      (subst (λ (b : Bool). AreShown form b ws other) (ap (λ (t : Told). t.any) is ∙ any_is told vs) shown_then),
  Appends-trans a b c one other put put_then,
  is_then ∙ ap (λ (t : Told). told_all t ws) is ∙ sym (told_append told vs ws),
)
