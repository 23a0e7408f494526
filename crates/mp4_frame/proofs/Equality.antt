-- Equality of numbers, of options of them, of enums, and of places.
use Rattle.std.proofs.Common.{◌≡◌, ◌&&◌, ◌∙◌, ℕ, ℤ, Bool, true, false, nat_eq, List, [], ◌∷◌, Option, Some, None}
use Rattle.std.proofs.Common.{refl, sym, ap}
use Rattle.std.specs.Option.{option_eq, unwrap_or}
use Rattle.std.specs.Ordering.{int_eq}
use Rattle.std.proofs.lemmas.Bool.{and_parts, and_from, eqb-true, eq-eqb}
use Rattle.std.proofs.lemmas.Bool.Decides.{Decides-int_eq}
use denote.Enum.Compared.{Each, by}
use denote.Enum.Declared.{Choice, Record, values_one}
use denote.Struct.Field.{Field}
use denote.Struct.Record.{Record as Struct}
use denote.Struct.Record.{Propositions}
use denote.Struct.Record.{values_one as fields_one}
use denote.Struct.Values.{Values}
use mathlib.Core.Logic.{inl, inr}
use lib.Pointwise.{pointwise, pointwise_decides}
use Rattle.mp4_frame.specs.Equality.{IsEquality}
use Rattle.mp4_frame.specs.contracts.box_type.BoxType as box_type
use Rattle.mp4_frame.specs.contracts.box_type.BoxTypePartialEq.TheImpl as box_type_eq
use Rattle.mp4_frame.specs.contracts.box_type.BoxTypeEq.TheImpl.Laws as box_type_laws
use Rattle.mp4_frame.specs.contracts.list.BoxSpanPartialEq.TheImpl as box_span_eq
use Rattle.mp4_frame.specs.contracts.list.BoxSpan as box_span_eq_box

-- a check of two values that is true if and only if they are equal
abbrev pub Decider : Type 0 → Type 0
Decider A = (check : A → A → Bool) × IsEquality check

abbrev pub decider : {A : Type 0} {check : A → A → Bool} → IsEquality check → Decider A
decider {A} {check} decides = (check, decides)

abbrev pub numbers : Decider ℕ
numbers = (nat_eq, λ a b. (eqb-true a b, eq-eqb a b))

abbrev pub integers : Decider ℤ
integers = (int_eq, Decides-int_eq)

pub same_options : {A : Type 0} {check : A → A → Bool} → IsEquality check → IsEquality (option_eq check)
same_options decides (Some a) (Some b) = (
  λ h. ap (λ v. Some v) ((decides a b).0 h),
  λ e. (decides a b).1 (ap (λ o. unwrap_or o a) e),
)
same_options decides None None = (λ h. refl, λ e. refl)
same_options decides (Some a) None = (λ h. absurd cc, λ e. absurd cc)
same_options decides None (Some b) = (λ h. absurd cc, λ e. absurd cc)

abbrev pub options : {A : Type 0} → Decider A → Decider (Option A)
options d = (option_eq d.0, same_options d.1)

abbrev pub lists : {A : Type 0} → Decider A → Decider (List A)
lists d = (pointwise d.0, pointwise_decides d.1)

-- for two values of a variant with fields, the check is true only if they are equal
abbrev pub AreExact : (Fss : List (List Field)) → Each Bool Fss → Type 0
AreExact [] each = Unit {0}
AreExact ([] ∷ Fss) each = AreExact Fss each.1
AreExact ((F ∷ Fs) ∷ Fss) each = ((x y : Values (F ∷ Fs)) → each.0 x y ≡ true → x ≡ y) × AreExact Fss each.1

same_choice : (Fss : List (List Field)) (each : Each Bool Fss) → AreExact Fss each → (c d : Choice Fss)
    → by false false Fss each c d ≡ true → c ≡ d
same_choice [] each exact c d h = absurd c
same_choice ([] ∷ Fss) each exact (inl x) (inl y) h = refl
same_choice ([] ∷ Fss) each exact (inl x) (inr d) h = absurd cc
same_choice ([] ∷ Fss) each exact (inr c) (inl y) h = absurd cc
same_choice ([] ∷ Fss) each exact (inr c) (inr d) h = ap inr (same_choice Fss each.1 exact c d h)
same_choice ((F ∷ Fs) ∷ Fss) each exact (inl x) (inl y) h = ap inl (exact.0 x y h)
same_choice ((F ∷ Fs) ∷ Fss) each exact (inl x) (inr d) h = absurd cc
same_choice ((F ∷ Fs) ∷ Fss) each exact (inr c) (inl y) h = absurd cc
same_choice ((F ∷ Fs) ∷ Fss) each exact (inr c) (inr d) h = ap inr (same_choice Fss each.1 exact.1 c d h)

-- derived equality of an enum
pub same_variant : (N : Record) (each : Each Bool N.parts) → AreExact N.parts each → (x y : N.D)
    → by false false N.parts each (N.as_values x) (N.as_values y) ≡ true → x ≡ y
same_variant N each exact x y h = values_one N x y (same_choice N.parts each exact (N.as_values x) (N.as_values y) h)

-- a check for each field
abbrev pub Decided : List Field → Type 0
Decided [] = Unit {0}
Decided (F ∷ Fs) = Decider F.Value × Decided Fs

infixr 30 ◌⨾◌
abbrev pub ◌⨾◌ : {A B : Type 0} → A → B → A × B
a ⨾ b = (a, b)

-- the checks of all fields, joined by `&&` in the order that `derive` gives them
abbrev pub checks : (Fs : List Field) → Decided Fs → Values Fs → Values Fs → Bool
checks [] ds xs ys = true
checks (F ∷ []) ds xs ys = ds.0.0 xs.0 ys.0
checks (F ∷ G ∷ Fs) ds xs ys = ds.0.0 xs.0 ys.0 && checks (G ∷ Fs) ds.1 xs.1 ys.1

same_values : (Fs : List Field) (ds : Decided Fs) (xs ys : Values Fs) → checks Fs ds xs ys ≡ true → xs ≡ ys
same_values [] ds xs ys h = refl
same_values (F ∷ []) ds xs ys h = ap (λ v. (v, tt)) ((ds.0.1 xs.0 ys.0).0 h)
same_values (F ∷ G ∷ Fs) ds xs ys h =
    let p = and_parts _ _ h in
    let first : xs.0 ≡ ys.0 = (ds.0.1 xs.0 ys.0).0 p.0 in
    let more : xs.1 ≡ ys.1 = same_values (G ∷ Fs) ds.1 xs.1 ys.1 p.1 in
    λ i. (first i, more i)

values_same : (Fs : List Field) (ds : Decided Fs) (xs : Values Fs) → checks Fs ds xs xs ≡ true
values_same [] ds xs = refl
values_same (F ∷ []) ds xs = (ds.0.1 xs.0 xs.0).1 refl
values_same (F ∷ G ∷ Fs) ds xs = and_from _ _ ((ds.0.1 xs.0 xs.0).1 refl) (values_same (G ∷ Fs) ds.1 xs.1)

-- derived equality of a struct
pub by_fields : (N : Struct) → Propositions N → {eq : N.D → N.D → Bool} → (ds : Decided N.parts)
    → ((x y : N.D) → eq x y ≡ checks N.parts ds (N.as_values x) (N.as_values y)) → IsEquality eq
by_fields N props ds is x y = (
  λ h. fields_one N props x y (same_values N.parts ds (N.as_values x) (N.as_values y) (sym (is x y) ∙ h)),
  λ e. rw e (is y y ∙ values_same N.parts ds (N.as_values y)),
)

pub box_type_equality : IsEquality (box_type_eq.ghosts).eq
box_type_equality x y = (
  λ h. same_variant box_type.enum _ ((λ m n e. ap (λ (k : ℕ). (k, tt)) (eqb-true m.0 n.0 e)), tt) x y h,
  λ e. rw e (box_type_laws.laws-law.refl y),
)

pub box_span_equality : IsEquality (box_span_eq.ghosts).eq
box_span_equality = by_fields box_span_eq_box.struct box_span_eq_box.the_propositions
    (numbers ⨾ numbers ⨾ decider box_type_equality ⨾ tt) (λ x y. refl)
