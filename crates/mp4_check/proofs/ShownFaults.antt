-- The faults that are written, in order.
use Rattle.std.proofs.Common.{◌≡◌, ℕ, List, [], ◌∷◌, ◌++◌, refl, sym, ap, subst, ◌∙◌, append_assoc, append-nil}
use Rattle.std.proofs.KnownBytes.{Appends-trans}
use Rattle.std.specs.Io.KnownBytes.{Appends}
use Rattle.std.specs.declared.option.Option.{Option}
use Rattle.mp4_check.specs.FaultValues.{Value}
use Rattle.mp4_check.specs.Lines.{IsShown, Writes, between, severity_at, told_after}
use Rattle.mp4_check.specs.declared.lines.Form.{Form}
use Rattle.mp4_check.specs.declared.lines.Told.{Told}

-- One fault is written.
pub writes_one : (form : Form) (told now : Told) (v : Value) (front one : List ℕ) (a b c : Option (List ℕ))
    → IsShown form v one → front ≡ between form told.any → Appends a b front → Appends b c one
    → now ≡ told_after told (severity_at v) → Writes form told (v ∷ []) a c now
writes_one form told now v front one a b c shown is put put_then told_is = (
  front ++ (one ++ []),
  (one, [], shown, refl, ap (λ (xs : List ℕ). xs ++ (one ++ [])) is),
  Appends-trans a b c front (one ++ []) put
      (subst (λ (xs : List ℕ). Appends b c xs) (sym (append-nil one)) put_then),
  told_is,
)

-- The faults with these values are written to an output, and the two summaries are those before and after them.
abbrev pub Written : Type 0 → Type 1
Written O = Told → List Value → O → O → Told → Type 0

-- The laws of a form: without a fault nothing is written, and faults may be written in parts.
pub record Laws {O : Type 0} (W : Written O) : Type 0 where
  pub none : (told : Told) (a : O) → W told [] a a told
  pub more : (told between now : Told) (vs ws : List Value) (a b c : O) → W told vs a b between → W between ws b c now
      → W told (vs ++ ws) a c now

-- The laws of a form are those that its trait has.
pub form_laws : {F O : Type 0} (W : F → Written O) (none : (form : F) (told : Told) (a : O) → W form told [] a a told)
    (more : (form : F) (told between now : Told) (vs ws : List Value) (a b c : O) → W form told vs a b between
    → W form between ws b c now → W form told (vs ++ ws) a c now)
    (form : F) → Laws (W form)
form_laws W none more form = record { none = none form; more = more form }

-- Some of all faults are written, and these are left.
abbrev pub WritesFirst : {O : Type 0} → Written O → Told → List Value → List Value → O → O → Told → Type 0
WritesFirst W told all left old new now = (vs : List Value) × W told vs old new now × (vs ++ left ≡ all)

pub first_none : {O : Type 0} (W : Written O) (laws : Laws W) (told : Told) (all : List Value) (old : O)
    → WritesFirst W told all all old old told
first_none W laws told all old = ([], laws.none told old, refl)

pub first_more : {O : Type 0} (W : Written O) (laws : Laws W) (told between now : Told)
    (all left one rest : List Value) (a b c : O) → left ≡ one ++ rest → WritesFirst W told all left a b between
    → W between one b c now → WritesFirst W told all rest a c now
first_more W laws told between now all left one rest a b c is (vs, written, sum) more = (
  vs ++ one,
  laws.more told between now vs one a b c written more,
  append_assoc vs one rest ∙ ap (λ (xs : List Value). vs ++ xs) (sym is) ∙ sum,
)

pub first_all : {O : Type 0} (W : Written O) (told now : Told) (all left : List Value) (old new : O) → left ≡ []
    → WritesFirst W told all left old new now → W told all old new now
first_all W told now all left old new none (vs, written, sum) =
    subst (λ (xs : List Value). W told xs old new now)
    (sym (append-nil vs) ∙ ap (λ (xs : List Value). vs ++ xs) (sym none) ∙ sum) written
