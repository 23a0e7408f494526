-- Two parts come back, and so does the last of several parts.
use Rattle.std.proofs.Common.{◌≡◌, ℕ, Bool, true, false, not, ◌&&◌, List, [], ◌∷◌, ◌++◌, Ok}
use Rattle.std.proofs.Common.{append_assoc, arith, refl, sym, ap, ◌∙◌}
use Rattle.std.specs.Prelude.{max}
use Rattle.std.specs.Str.{bytes_eq}
use Rattle.json.specs.Json.{Members, no_members, member, Items, no_items, item}
use Rattle.json.specs.Token.{Token}
use Rattle.json.specs.Tree.{json_tokens, members_tokens, items_tokens}
use Rattle.mp4_shown.specs.Event.{Event}
use Rattle.mp4_shown.specs.TakenShapes.{map_taken, pair_taken}
use Rattle.mp4_shown.specs.Taking.{Taking, ◌>>=◌}
use Rattle.mp4_shown_json.specs.Tokens.{all_tokens, tokens_of}
use Rattle.mp4_shown_json.specs.Whole.{tokens_of_items, tokens_of_members}
use Rattle.mp4_read_back.specs.ComesBack.{AreAbsent, ComesBack, Part, are_others, is_other}

-- ---- names

pub and_both : (a b : Bool) → (a && b) ≡ true → (a ≡ true) × (b ≡ true)
and_both true b both = (refl, both)
and_both false b both = absurd cc

pub other_parts : (name : List ℕ) (xs ys : List (List ℕ)) → is_other name (xs ++ ys) ≡ true
    → (is_other name xs ≡ true) × (is_other name ys ≡ true)
other_parts name [] ys other = (refl, other)
other_parts name (x ∷ xs) ys other =
    let both = and_both (not (bytes_eq x name)) (is_other name (xs ++ ys)) other in
    let rest = other_parts name xs ys both.1 in
    (ap (λ (b : Bool). b && is_other name xs) both.0 ∙ rest.0, rest.1)

pub absent_parts : (xs ys : List (List ℕ)) (ms : Members) → AreAbsent (xs ++ ys) ms → AreAbsent xs ms × AreAbsent ys ms
absent_parts [] ys ms absent = (tt, absent)
absent_parts (x ∷ xs) ys ms absent =
    let rest = absent_parts xs ys ms absent.1 in ((absent.0, rest.0), rest.1)

-- no member is left
pub none_absent : (names : List (List ℕ)) → AreAbsent names no_members
none_absent [] = tt
none_absent (n ∷ ns) = (refl, none_absent ns)

-- ---- tokens

pub tokens_append : (xs ys : List Event) → all_tokens (xs ++ ys) ≡ all_tokens xs ++ all_tokens ys
tokens_append [] ys = refl
tokens_append (x ∷ xs) ys =
    ap (λ (ts : List Token). tokens_of x ++ ts) (tokens_append xs ys)
    ∙ sym (append_assoc (tokens_of x) (all_tokens xs) (all_tokens ys))

-- the members of an object, and its bracket
pub members_end : (ms : Members) → members_tokens ms ≡ tokens_of_members ms ++ Token.end_object ∷ []
members_end no_members = refl
members_end (member k j ms) =
    ap (λ (ts : List Token). Token.key k ∷ ts)
    (ap (λ (ts : List Token). json_tokens j ++ ts) (members_end ms)
    ∙ sym (append_assoc (json_tokens j) (tokens_of_members ms) (Token.end_object ∷ [])))

-- the items of an array, and its bracket
pub items_end : (js : Items) → items_tokens js ≡ tokens_of_items js ++ Token.end_array ∷ []
items_end no_items = refl
items_end (item j js) =
    ap (λ (ts : List Token). json_tokens j ++ ts) (items_end js)
    ∙ sym (append_assoc (json_tokens j) (tokens_of_items js) (Token.end_array ∷ []))

-- ---- parts

module _ {N A : Type 0} (p : Part N A) (comes : ComesBack p) where
  -- names of other parts stay absent
  pub still_absent : (others : List (List ℕ)) (n : N) (v : A) (ms : Members) → are_others others (p.names n) ≡ true
      → AreAbsent others ms → AreAbsent others (p.before n v ms)
  still_absent [] n v ms apart absent = tt
  still_absent (o ∷ os) n v ms apart absent =
      let both = and_both (is_other o (p.names n)) (are_others os (p.names n)) apart in
      (comes.apart n v ms o both.0 absent.0, still_absent os n v ms both.1 absent.1)

-- two parts, whose names differ
abbrev pub pair_part : {M N A B : Type 0} → Part M A → Part N B → Part (M × N) (A × B)
pair_part {M} {N} {A} {B} a b = record {
  shown = λ n v. a.shown n.0 v.0 ++ b.shown n.1 v.1;
  taken = λ n c ms. pair_taken (a.taken n.0 c) (b.taken n.1 c) ms;
  Fits = λ c v. a.Fits c v.0 × b.Fits c v.1;
  names = λ n. a.names n.0 ++ b.names n.1;
  is_good = λ n. (a.is_good n.0 && b.is_good n.1) && are_others (a.names n.0) (b.names n.1);
  before = λ n v ms. a.before n.0 v.0 (b.before n.1 v.1 ms);
  deep = max a.deep b.deep;
}

pub pair_comes : {M N A B : Type 0} (a : Part M A) (b : Part N B) → ComesBack a → ComesBack b
    → ComesBack (pair_part a b)
pair_comes {M} {N} {A} {B} a b comes_a comes_b = record {
  printed = λ n c v ms good fits.
      let both = and_both (a.is_good n.0 && b.is_good n.1) (are_others (a.names n.0) (b.names n.1)) good in
      let each = and_both (a.is_good n.0) (b.is_good n.1) both.0 in
      ap (λ (ts : List Token). ts ++ tokens_of_members ms) (tokens_append (a.shown n.0 v.0) (b.shown n.1 v.1))
      ∙ append_assoc (all_tokens (a.shown n.0 v.0)) (all_tokens (b.shown n.1 v.1)) (tokens_of_members ms)
      ∙ ap (λ (ts : List Token). all_tokens (a.shown n.0 v.0) ++ ts) (comes_b.printed n.1 c v.1 ms each.1 fits.1)
      ∙ comes_a.printed n.0 c v.0 (b.before n.1 v.1 ms) each.0 fits.0;
  back = λ n c v ms good fits absent.
      let both = and_both (a.is_good n.0 && b.is_good n.1) (are_others (a.names n.0) (b.names n.1)) good in
      let each = and_both (a.is_good n.0) (b.is_good n.1) both.0 in
      let parts = absent_parts (a.names n.0) (b.names n.1) ms absent in
      ap (λ (t : Taking (A × Members)). t >>= λ p. b.taken n.1 c p.1 >>= λ q. Ok ((p.0, q.0), q.1))
      (comes_a.back n.0 c v.0 (b.before n.1 v.1 ms) each.0 fits.0
      (still_absent b comes_b (a.names n.0) n.1 v.1 ms both.1 parts.0))
      ∙ ap (λ (t : Taking (B × Members)). t >>= λ q. Ok ((v.0, q.0), q.1))
      (comes_b.back n.1 c v.1 ms each.1 fits.1 parts.1);
  apart = λ n v ms name other none.
      let parts = other_parts name (a.names n.0) (b.names n.1) other in
      comes_a.apart n.0 v.0 (b.before n.1 v.1 ms) name parts.0 (comes_b.apart n.1 v.1 ms name parts.1 none);
  numbers = λ n c v ms good fits have.
      let both = and_both (a.is_good n.0 && b.is_good n.1) (are_others (a.names n.0) (b.names n.1)) good in
      let each = and_both (a.is_good n.0) (b.is_good n.1) both.0 in
      comes_a.numbers n.0 c v.0 (b.before n.1 v.1 ms) each.0 fits.0
      (comes_b.numbers n.1 c v.1 ms each.1 fits.1 have);
  shallow = λ n v ms d deep rest.
      comes_a.shallow n.0 v.0 (b.before n.1 v.1 ms) d (omega (arith, deep))
      (comes_b.shallow n.1 v.1 ms d (omega (arith, deep)) rest);
}

-- the last of several parts
abbrev pub last_part : {N A : Type 0} → Part N A → Part (N × Unit {0}) (A × Unit {0})
last_part {N} {A} p = record {
  shown = λ n v. p.shown n.0 v.0;
  taken = λ n c ms. map_taken (λ (v : A). (v, tt)) (p.taken n.0 c ms);
  Fits = λ c v. p.Fits c v.0;
  names = λ n. p.names n.0;
  is_good = λ n. p.is_good n.0;
  before = λ n v ms. p.before n.0 v.0 ms;
  deep = p.deep;
}

pub last_comes : {N A : Type 0} (p : Part N A) → ComesBack p → ComesBack (last_part p)
last_comes {N} {A} p comes = record {
  printed = λ n c v ms good fits. comes.printed n.0 c v.0 ms good fits;
  back = λ n c v ms good fits absent.
      ap (λ (t : Taking (A × Members)). map_taken (λ (x : A). (x, tt)) t) (comes.back n.0 c v.0 ms good fits absent);
  apart = λ n v ms name other none. comes.apart n.0 v.0 ms name other none;
  numbers = λ n c v ms good fits have. comes.numbers n.0 c v.0 ms good fits have;
  shallow = λ n v ms d deep rest. comes.shallow n.0 v.0 ms d deep rest;
}
