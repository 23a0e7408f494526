-- Structs as entries of a list and as parts of a box, under the names of their fields; and parts by the version.
use Rattle.std.specs.Prelude.{◌≡◌, suc, ◌==◌, ◌&&◌, Bool, true, false, if◌then◌else◌}
use Rattle.json.specs.Json.{Members, no_members, object}
use Rattle.mp4_declared.specs.DeclaredEntry.{ExactLayout}
use Rattle.mp4_declared.specs.declared.context.Context.{Context}
use Rattle.mp4_shown.specs.Lists.{entry_of}
use Rattle.mp4_shown.specs.TakenShapes.{entry_made, made_of}
use Rattle.mp4_read_back.specs.ComesBack.{EntryPart, Part}

-- an entry that is the members of a struct
abbrev pub struct_entry : {N A X : Type 0} → ExactLayout A X → Part N A → N → EntryPart (Unit {0}) X
struct_entry l p n = record {
  shown = λ _ x. entry_of (p.shown n (l.content x));
  taken = λ _ c j. entry_made l.value (p.taken n c) j;
  Fits = λ c x. p.Fits c (l.content x);
  is_good = λ _. p.is_good n;
  json = λ _ x. object (p.before n (l.content x) no_members);
  deep = suc p.deep;
}

-- the fields of a struct among those of a box
abbrev pub struct_part : {N A X : Type 0} → ExactLayout A X → Part N A → N → Part (Unit {0}) X
struct_part l p n = record {
  shown = λ _ x. p.shown n (l.content x);
  taken = λ _ c ms. made_of l.value (p.taken n c) ms;
  Fits = λ c x. p.Fits c (l.content x);
  names = λ _. p.names n;
  is_good = λ _. p.is_good n;
  before = λ _ x ms. p.before n (l.content x) ms;
  deep = p.deep;
}

-- ---- a part that is taken in one way in version 0, and in another way in later versions

abbrev pub FitsEither : {A : Type 0} → (Context → A → Type 0) → (Context → A → Type 0) → Context → Bool → A → Type 0
FitsEither Fits FitsLater c true v = Fits c v
FitsEither Fits FitsLater c false v = FitsLater c v

-- two parts are shown in the same way
pub record AreAlike {N A : Type 0} (p q : Part N A) : Type 0 where
  pub shown : (n : N) (v : A) → p.shown n v ≡ q.shown n v
  pub before : (n : N) (v : A) (ms : Members) → p.before n v ms ≡ q.before n v ms
  pub names : (n : N) → p.names n ≡ q.names n

abbrev pub by_version_part : {N A : Type 0} → Part N A → Part N A → Part N A
by_version_part p q = record {
  shown = q.shown;
  taken = λ n c ms. if c.version == 0 then p.taken n c ms else q.taken n c ms;
  Fits = λ c v. FitsEither p.Fits q.Fits c (c.version == 0) v;
  names = q.names;
  is_good = λ n. p.is_good n && q.is_good n;
  before = q.before;
  deep = q.deep;
}
