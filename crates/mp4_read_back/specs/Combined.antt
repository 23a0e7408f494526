-- Parts that are made of others: of other values, and one of two by what is there.
use Rattle.std.specs.Prelude.{Bool, true, false, ◌&&◌, List, ◌++◌, if◌then◌else◌, max}
use Rattle.mp4_declared.specs.declared.context.Context.{Context}
use Rattle.mp4_shown.specs.Event.{Event}
use Rattle.mp4_shown.specs.Object.{has}
use Rattle.mp4_shown.specs.TakenShapes.{Takes, made_of}
use Rattle.mp4_read_back.specs.ComesBack.{Part, is_other}
use Rattle.std.specs.Prelude.{ℕ}

-- a part of some values that are made of others
abbrev pub made_where : {N A B : Type 0} → (B → Type 0) → (B → A) → (A → B) → Part N A → Part N B
made_where Known content make p = record {
  shown = λ n x. p.shown n (content x);
  taken = λ n c ms. made_of make (p.taken n c) ms;
  Fits = λ c x. Known x × p.Fits c (content x);
  names = p.names;
  is_good = p.is_good;
  before = λ n x ms. p.before n (content x) ms;
  deep = p.deep;
}

-- a part whose events and whose taking are written in another way
abbrev pub same_part : {N A : Type 0} → Part N A → (N → A → List Event) → (N → Context → Takes A) → Part N A
same_part p shown taken = record {
  shown = shown;
  taken = taken;
  Fits = p.Fits;
  names = p.names;
  is_good = p.is_good;
  before = p.before;
  deep = p.deep;
}

-- a part of fewer values
abbrev pub fitting_part : {N A : Type 0} → (Context → A → Type 0) → Part N A → Part N A
fitting_part Fits p = record {
  shown = p.shown;
  taken = p.taken;
  Fits = Fits;
  names = p.names;
  is_good = p.is_good;
  before = p.before;
  deep = p.deep;
}

abbrev pub FitsOne : Bool → Type 0 → Type 0 → Type 0
FitsOne true Q P = Q
FitsOne false Q P = P

-- One of two parts of the same values. A member of the first is always there if the names pass a test, and the second
-- has none of this name.
abbrev pub present_part : {N A : Type 0} → (N → List ℕ) → (N → Bool) → (A → Bool) → Part N A → Part N A → Part N A
present_part key is_always is_second p q = record {
  shown = λ n v. if is_second v then q.shown n v else p.shown n v;
  taken = λ n c ms. if has (key n) ms then p.taken n c ms else q.taken n c ms;
  Fits = λ c v. FitsOne (is_second v) (q.Fits c v) (p.Fits c v);
  names = λ n. p.names n ++ q.names n;
  is_good = λ n. (p.is_good n && q.is_good n) && (is_other (key n) (q.names n) && is_always n);
  before = λ n v ms. if is_second v then q.before n v ms else p.before n v ms;
  deep = max p.deep q.deep;
}
