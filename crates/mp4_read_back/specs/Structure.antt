-- Parts that may be absent, a version and flags with what follows them, and parts that are the members of one member.
use Rattle.std.specs.Prelude.{◌≡◌, ℕ, suc, ◌<◌, ◌^◌, Bool, true, false, ◌&&◌, List, [], ◌∷◌, ◌++◌, Option, Some, None}
use Rattle.json.specs.Json.{Members, member, no_members, object}
use Rattle.mp4_declared.specs.declared.context.Context.{Context}
use Rattle.mp4_shown.specs.Event.{Event, Text}
use Rattle.mp4_shown.specs.Numbers.{NumberName, shown_number}
use Rattle.mp4_shown.specs.Shapes.{shown_group}
use Rattle.mp4_shown.specs.TakenShapes.{full_taken, group_taken, taken_if}
use Rattle.mp4_read_back.specs.ComesBack.{Part, are_others}
use Rattle.mp4_read_back.specs.NumberParts.{is_good_as, names_as, number_before}

-- ---- a part that is present under a condition

abbrev pub shown_or_none : {N A : Type 0} → (N → A → List Event) → N → Option A → List Event
shown_or_none shown n (Some x) = shown n x
shown_or_none shown n None = []

abbrev pub FitsOrNone : {A : Type 0} → (Context → A → Type 0) → Context → Bool → Option A → Type 0
FitsOrNone Fits c is_present (Some x) = (is_present ≡ true) × Fits c x
FitsOrNone Fits c is_present None = is_present ≡ false

abbrev pub before_or_none : {N A : Type 0} → (N → A → Members → Members) → N → Option A → Members → Members
before_or_none before n (Some x) ms = before n x ms
before_or_none before n None ms = ms

abbrev pub optional_part : {N A : Type 0} → (Context → Bool) → Part N A → Part N (Option A)
optional_part holds p = record {
  shown = λ n v. shown_or_none p.shown n v;
  taken = λ n c ms. taken_if (holds c) (p.taken n c) ms;
  Fits = λ c v. FitsOrNone p.Fits c (holds c) v;
  names = p.names;
  is_good = p.is_good;
  before = λ n v ms. before_or_none p.before n v ms;
  deep = p.deep;
}

-- ---- a version below `limit`, flags, and a part that may depend on both

abbrev pub full_before : {N A : Type 0} → (N → A → Members → Members) → NumberName × (NumberName × N) → ℕ × (ℕ × A)
    → Members → Members
full_before before n v ms =
    number_before n.0.0.now n.0.1 n.0.2.now v.0
    (number_before n.1.0.0.now n.1.0.1 n.1.0.2.now v.1.0 (before n.1.1 v.1.1 ms))

abbrev pub full_part : {N A : Type 0} → ℕ → Part N A → Part (NumberName × (NumberName × N)) (ℕ × (ℕ × A))
full_part limit p = record {
  shown = λ n v. (shown_number n.0 v.0 ++ shown_number n.1.0 v.1.0) ++ p.shown n.1.1 v.1.1;
  taken = λ n c ms. full_taken limit n.0 n.1.0 (p.taken n.1.1) ms;
  Fits = λ c v. (v.0 < limit) × (v.0 < 2 ^ 8) × (v.1.0 < 2 ^ 24)
      × p.Fits (record { version = v.0; flags = v.1.0 }) v.1.1;
  names = λ n. names_as n.0.0.now n.0.1 ++ (names_as n.1.0.0.now n.1.0.1 ++ p.names n.1.1);
  is_good = λ n. (is_good_as 8 n.0.0.now n.0.1 && (is_good_as 24 n.1.0.0.now n.1.0.1 && p.is_good n.1.1))
      && (are_others (names_as n.0.0.now n.0.1) (names_as n.1.0.0.now n.1.0.1 ++ p.names n.1.1)
      && are_others (names_as n.1.0.0.now n.1.0.1) (p.names n.1.1));
  before = λ n v ms. full_before p.before n v ms;
  deep = p.deep;
}

-- ---- a part whose fields are the members of one member

abbrev pub group_part : {N A : Type 0} → Part N A → Part (Text × N) A
group_part p = record {
  shown = λ n v. shown_group n.0.now (p.shown n.1 v);
  taken = λ n c ms. group_taken n.0.now (p.taken n.1 c) ms;
  Fits = p.Fits;
  names = λ n. n.0.now ∷ [];
  is_good = λ n. p.is_good n.1;
  before = λ n v ms. member n.0.now (object (p.before n.1 v no_members)) ms;
  deep = suc p.deep;
}
