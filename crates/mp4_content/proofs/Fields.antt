-- The fields of a box are whole members, and which fields there are.
use Rattle.std.proofs.Common.{◌≡◌, ℕ, ◌<◌, ◌==◌, Bool, false, Vec, Global, List, [], Result, Ok, Err, length, refl}
use Rattle.std.proofs.Common.{subst, sym}
use Rattle.std.proofs.lemmas.Bool.{lt-leb}
use Rattle.std.specs.Prelude.{nat_le, OnOk}
use Rattle.mp4_content.specs.Fields.{content_fields, fields_if, front_fields, has_version, plain_fields}
use Rattle.mp4_content.specs.declared.content.Content.{Content}
use Rattle.mp4_content.specs.declared.content.Content.TheVariants as contents
use Rattle.mp4_content.specs.declared.kind.Kind.{Kind}
use Rattle.mp4_content.specs.declared.kind.Kind.TheVariants as kinds
use Rattle.mp4_show.specs.FrontFields.{entry_whole, head_whole, list_whole, reference_whole}
use Rattle.mp4_show.specs.FrontFields.{sound_whole, terminator_whole, usertype_fields, usertype_whole, visual_whole}
use Rattle.mp4_shown.specs.Event.{Event, Shown, shown_of}
use Rattle.mp4_shown.specs.Hands.{Hands}
use Rattle.mp4_shown.specs.Members.{AreMembers, members_if}
use Rattle.mp4_shown.specs.declared.value.Value.{Value}
use Rattle.mp4_shown.specs.declared.value.Value.TheVariants as values
use Rattle.uuid.specs.Text.{hyphenated_text, lower}

fields_if_whole : (least : ℕ) (xs : List ℕ) (es : List Event) → AreMembers es → AreMembers (fields_if least xs es)
fields_if_whole least xs es whole = members_if (nat_le least (length xs)) es [] whole (λ s. refl)

pub front_whole : (kind : Kind) (quicktime : Bool) (xs : List ℕ) (rate : Shown)
    → AreMembers (front_fields kind quicktime xs rate)
front_whole kinds.Full quicktime xs rate = fields_if_whole 4 xs _ (head_whole xs)
front_whole kinds.List quicktime xs rate = fields_if_whole 8 xs _ (list_whole xs)
front_whole kinds.Entry quicktime xs rate = fields_if_whole 8 xs _ (entry_whole xs)
front_whole kinds.Visual quicktime xs rate = fields_if_whole 78 xs _ (visual_whole xs)
front_whole kinds.Sound quicktime xs rate =
    fields_if_whole 28 xs _ (sound_whole (has_version quicktime xs) xs rate)
front_whole kinds.Terminator quicktime xs rate = terminator_whole
front_whole kinds.Reference quicktime xs rate = fields_if_whole 4 xs _ (reference_whole xs)
front_whole kinds.Uuid quicktime xs rate =
    members_if (length xs == 16) (usertype_fields (hyphenated_text lower xs)) []
    (usertype_whole (hyphenated_text lower xs)) (λ s. refl)
front_whole kinds.Boxes quicktime xs rate = λ s. refl
front_whole kinds.Deep quicktime xs rate = λ s. refl
front_whole kinds.Unread quicktime xs rate = λ s. refl
front_whole kinds.Cut quicktime xs rate = λ s. refl
front_whole kinds.Small quicktime xs rate = λ s. refl
front_whole (kinds.Known name) quicktime xs rate = λ s. refl

-- Only a sound entry shows a rate.
plain_is : (kind : Kind) (quicktime : Bool) (xs : List ℕ) (rate : Shown) → ¬ (kind ≡ kinds.Sound)
    → front_fields kind quicktime xs rate ≡ plain_fields kind xs
plain_is kinds.Full quicktime xs rate other = refl
plain_is kinds.List quicktime xs rate other = refl
plain_is kinds.Entry quicktime xs rate other = refl
plain_is kinds.Visual quicktime xs rate other = refl
plain_is kinds.Sound quicktime xs rate other = absurd (other refl)
plain_is kinds.Terminator quicktime xs rate other = refl
plain_is kinds.Reference quicktime xs rate other = refl
plain_is kinds.Uuid quicktime xs rate other = refl
plain_is kinds.Boxes quicktime xs rate other = refl
plain_is kinds.Deep quicktime xs rate other = refl
plain_is kinds.Unread quicktime xs rate other = refl
plain_is kinds.Cut quicktime xs rate other = refl
plain_is kinds.Small quicktime xs rate other = refl
plain_is (kinds.Known name) quicktime xs rate other = refl

-- a rate that is not shown
no_rate : Value
no_rate = values.Number 0

module _ {S T : Type 0} (trace : S → T) (after : T → Event → T) where
  -- These fields are handed over, whatever the rate.
  pub with_rate : {A E : Type 0} (r : Result A E) (old new : S) (es : List Event) (fields : Shown → List Event)
      → ((rate : Shown) → fields rate ≡ es) → OnOk r (Hands trace after old es new)
      → OnOk r ((rate : Value) × Hands trace after old (fields (shown_of rate)) new)
  with_rate (Ok a) old new es fields same hands =
      (no_rate, subst (λ (xs : List Event). Hands trace after old xs new) (sym (same (shown_of no_rate))) hands)
  with_rate (Err e) old new es fields same hands = tt

  pub with_plain : {A E : Type 0} (r : Result A E) (old new : S) (kind : Kind) (quicktime : Bool) (xs : List ℕ)
      → ¬ (kind ≡ kinds.Sound) → OnOk r (Hands trace after old (plain_fields kind xs) new)
      → OnOk r ((rate : Value) × Hands trace after old (front_fields kind quicktime xs (shown_of rate)) new)
  with_plain r old new kind quicktime xs other hands =
      with_rate r old new (plain_fields kind xs) (front_fields kind quicktime xs)
      (λ rate. plain_is kind quicktime xs rate other) hands

  -- A sound entry with fewer bytes has no fields.
  pub with_few : (s : S) (kind : Kind) (quicktime : Bool) (xs : List ℕ) → kind ≡ kinds.Sound → length xs < 28
      → (rate : Value) × Hands trace after s (front_fields kind quicktime xs (shown_of rate)) s
  with_few s kind quicktime xs is few =
      let less : nat_le 28 (length xs) ≡ false = lt-leb 28 (length xs) few in
      (no_rate, rw (is, less) refl)

  -- Content that isn't whole and has no front has no fields.
  pub with_none : {A : Type 0} (s : S) (content : Content A) (shown : A → List Event) (quicktime : Bool)
      → ((v : A) → ¬ (content ≡ contents.Known v))
      → ((kind : Kind) (v : Vec ℕ Global) → ¬ (content ≡ contents.Front kind v))
      → (rate : Value) × Hands trace after s (content_fields shown quicktime content (shown_of rate)) s
  with_none s (contents.Known v) shown quicktime known front = absurd (known v refl)
  with_none s (contents.Front kind v) shown quicktime known front = absurd (front kind v refl)
  with_none s contents.Boxes shown quicktime known front = (no_rate, refl)
  with_none s contents.Deep shown quicktime known front = (no_rate, refl)
  with_none s contents.Unread shown quicktime known front = (no_rate, refl)
  with_none s (contents.Faulty e) shown quicktime known front = (no_rate, refl)
