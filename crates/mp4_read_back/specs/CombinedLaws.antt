-- Parts that are made of others come back.
use Rattle.std.proofs.Common.{◌≡◌, ℕ, ◌≤◌, Bool, true, false, ◌&&◌, List, ◌++◌, None, Ok, Err, Option, arith}
use Rattle.std.proofs.Common.{refl, sym, ap, ◌∙◌}
use Rattle.std.specs.Prelude.{if◌then◌else◌, is_some, max, nat_le}
use Rattle.std.proofs.lemmas.Bool.{leb-true}
use Rattle.mp4_declared.specs.OwnBox.{no_context}
use Rattle.json.specs.Json.{Json, Members}
use Rattle.json.specs.Tree.{MembersHaveNumbers, members_depth}
use Rattle.mp4_declared.specs.declared.context.Context.{Context}
use Rattle.mp4_shown.specs.Event.{Event}
use Rattle.mp4_shown.specs.Object.{first_of, has}
use Rattle.mp4_shown.specs.TakenShapes.{Takes, map_taken, pair_taken}
use Rattle.mp4_shown.specs.Taking.{Taking, ◌>>=◌}
use Rattle.mp4_shown_json.specs.Tokens.{all_tokens}
use Rattle.mp4_shown_json.specs.Whole.{tokens_of_members}
use Rattle.mp4_read_back.specs.Combined.{FitsOne, fitting_part, made_where, present_part, same_part}
use Rattle.mp4_read_back.specs.ComesBack.{AreAbsent, ComesBack, Part, is_other}
use Rattle.mp4_read_back.specs.ComesBackLaws.{absent_parts, and_both, other_parts}
use Rattle.mp4_read_back.specs.Text.{IsReadBack, is_readable, text_back}

-- ---- what is taken, step by step

pub then_assoc : {A B C : Type 0} (t : Taking A) (f : A → Taking B) (g : B → Taking C)
    → (t >>= f >>= g) ≡ (t >>= λ x. f x >>= g)
then_assoc (Ok x) f g = refl
then_assoc (Err e) f g = refl

pub then_same : {A B : Type 0} (t : Taking A) (f g : A → Taking B) → ((x : A) → f x ≡ g x) → (t >>= f) ≡ (t >>= g)
then_same (Ok x) f g same = same x
then_same (Err e) f g same = refl

-- a part, another one that follows from its value, and what is made of both
pub then_taken : {A B C : Type 0} (a : Takes A) (b : A → Takes B) (make : A × B → C) (ms : Members)
    → (a ms >>= λ p. b p.0 p.1 >>= λ q. Ok (make (p.0, q.0), q.1))
    ≡ map_taken make (a ms >>= λ p. b p.0 p.1 >>= λ q. Ok ((p.0, q.0), q.1))
then_taken {A} {B} {C} a b make ms =
    sym (then_assoc (a ms) (λ (p : A × Members). b p.0 p.1 >>= λ q. Ok ((p.0, q.0), q.1)) (λ t. Ok (make t.0, t.1))
    ∙ then_same (a ms) (λ (p : A × Members). (b p.0 p.1 >>= λ q. Ok ((p.0, q.0), q.1)) >>= λ t. Ok (make t.0, t.1))
    (λ (p : A × Members). b p.0 p.1 >>= λ q. Ok (make (p.0, q.0), q.1))
    (λ p. then_assoc (b p.0 p.1) (λ (q : B × Members). Ok ((p.0, q.0), q.1)) (λ t. Ok (make t.0, t.1))))

-- two parts one after the other, and what is made of both
pub two_taken : {A B C : Type 0} (a : Takes A) (b : Takes B) (make : A × B → C) (ms : Members)
    → (a ms >>= λ p. b p.1 >>= λ q. Ok (make (p.0, q.0), q.1)) ≡ map_taken make (pair_taken a b ms)
two_taken {A} {B} {C} a b make ms =
    sym (then_assoc (a ms) (λ (p : A × Members). b p.1 >>= λ q. Ok ((p.0, q.0), q.1)) (λ t. Ok (make t.0, t.1))
    ∙ then_same (a ms) (λ (p : A × Members). (b p.1 >>= λ q. Ok ((p.0, q.0), q.1)) >>= λ t. Ok (make t.0, t.1))
    (λ (p : A × Members). b p.1 >>= λ q. Ok (make (p.0, q.0), q.1))
    (λ p. then_assoc (b p.1) (λ (q : B × Members). Ok ((p.0, q.0), q.1)) (λ t. Ok (make t.0, t.1))))

-- ---- parts

pub made_where_comes : {N A B : Type 0} (Known : B → Type 0) (content : B → A) (make : A → B) (p : Part N A)
    → ((x : B) → Known x → make (content x) ≡ x) → ComesBack p → ComesBack (made_where Known content make p)
made_where_comes {N} {A} {B} Known content make p same comes = record {
  printed = λ n c x ms good fits. comes.printed n c (content x) ms good fits.1;
  back = λ n c x ms good fits free.
      ap (λ (t : Taking (A × Members)). t >>= λ q. Ok (make q.0, q.1)) (comes.back n c (content x) ms good fits.1 free)
      ∙ ap (λ (y : B). Ok (y, ms)) (same x fits.0);
  apart = λ n x ms name other none. comes.apart n (content x) ms name other none;
  numbers = λ n c x ms good fits have. comes.numbers n c (content x) ms good fits.1 have;
  shallow = λ n x ms d deep rest. comes.shallow n (content x) ms d deep rest;
}

pub same_comes : {N A : Type 0} (p : Part N A) (shown : N → A → List Event) (taken : N → Context → Takes A)
    → ((n : N) (v : A) → shown n v ≡ p.shown n v)
    → ((n : N) (c : Context) (ms : Members) → taken n c ms ≡ p.taken n c ms)
    → ComesBack p → ComesBack (same_part p shown taken)
same_comes {N} {A} p shown taken same_shown same_taken comes = record {
  printed = λ n c v ms good fits.
      ap (λ (es : List Event). all_tokens es ++ tokens_of_members ms) (same_shown n v)
      ∙ comes.printed n c v ms good fits;
  back = λ n c v ms good fits free. same_taken n c (p.before n v ms) ∙ comes.back n c v ms good fits free;
  apart = comes.apart;
  numbers = comes.numbers;
  shallow = comes.shallow;
}

pub fitting_comes : {N A : Type 0} (Fits : Context → A → Type 0) (p : Part N A)
    → ((c : Context) (v : A) → Fits c v → p.Fits c v) → ComesBack p → ComesBack (fitting_part Fits p)
fitting_comes Fits p fits_too comes = record {
  printed = λ n c v ms good fits. comes.printed n c v ms good (fits_too c v fits);
  back = λ n c v ms good fits free. comes.back n c v ms good (fits_too c v fits) free;
  apart = comes.apart;
  numbers = λ n c v ms good fits have. comes.numbers n c v ms good (fits_too c v fits) have;
  shallow = comes.shallow;
}

-- three parts one after the other, and what is made of them
pub three_taken : {A B C D : Type 0} (a : Takes A) (b : Takes B) (d : Takes C) (make : A × (B × C) → D) (ms : Members)
    → (a ms >>= λ p. b p.1 >>= λ q. d q.1 >>= λ r. Ok (make (p.0, (q.0, r.0)), r.1))
    ≡ map_taken make (pair_taken a (pair_taken b d) ms)
three_taken {A} {B} {C} {D} a b d make ms =
    then_same (a ms) (λ (p : A × Members). b p.1 >>= λ q. d q.1 >>= λ r. Ok (make (p.0, (q.0, r.0)), r.1))
    (λ (p : A × Members). pair_taken b d p.1 >>= λ q. Ok (make (p.0, q.0), q.1))
    (λ p. two_taken b d (λ (t : B × C). make (p.0, t)) p.1)
    ∙ two_taken a (pair_taken b d) make ms

-- one part before others
pub more_taken : {A B C : Type 0} (a : Takes A) (b : Takes B) (after : A → Takes C) (make : A × B → C) (ms : Members)
    → ((x : A) (rest : Members) → after x rest ≡ map_taken (λ y. make (x, y)) (b rest))
    → (a ms >>= λ p. after p.0 p.1) ≡ map_taken make (pair_taken a b ms)
more_taken {A} {B} {C} a b after make ms same =
    then_same (a ms) (λ (p : A × Members). after p.0 p.1)
    (λ (p : A × Members). b p.1 >>= λ q. Ok (make (p.0, q.0), q.1))
    (λ p. same p.0 p.1)
    ∙ two_taken a b make ms

pub more_then : {A B C : Type 0} (a : Takes A) (b : A → Takes B) (after : A → Takes C) (make : A × B → C) (ms : Members)
    → ((x : A) (rest : Members) → after x rest ≡ map_taken (λ y. make (x, y)) (b x rest))
    → (a ms >>= λ p. after p.0 p.1) ≡ map_taken make (a ms >>= λ p. b p.0 p.1 >>= λ q. Ok ((p.0, q.0), q.1))
more_then {A} {B} {C} a b after make ms same =
    then_same (a ms) (λ (p : A × Members). after p.0 p.1)
    (λ (p : A × Members). b p.0 p.1 >>= λ q. Ok (make (p.0, q.0), q.1))
    (λ p. same p.0 p.1)
    ∙ then_taken a b make ms

-- a box that is a part itself is printed under some names, and taken out of the text by them
pub part_back : {N A : Type 0} (p : Part N A) (n : N) → ComesBack p → is_readable p n ≡ true → (v : A)
    → p.Fits no_context v → IsReadBack (p.shown n v) (p.taken n no_context) v
part_back p n comes readable v fits =
    let both = and_both (p.is_good n) (nat_le p.deep 126) readable in
    text_back p comes n both.0 (leb-true p.deep 126 both.1) no_context v fits

-- ---- one of two parts

module _ {N A : Type 0} (key : N → List ℕ) (is_always : N → Bool) (is_second : A → Bool) (p q : Part N A)
    (there : (n : N) (v : A) (ms : Members) → is_second v ≡ false → is_always n ≡ true → has (key n) (p.before n v
    ms) ≡ true)
    (free : (n : N) (ms : Members) → AreAbsent (p.names n) ms → first_of (key n) ms ≡ None)
    (of_p : ComesBack p) (of_q : ComesBack q) where
  record Good (n : N) : Type 0 where
    p_good : p.is_good n ≡ true
    q_good : q.is_good n ≡ true
    apart : is_other (key n) (q.names n) ≡ true
    always : is_always n ≡ true

  good_parts : (n : N) → ((p.is_good n && q.is_good n) && (is_other (key n) (q.names n) && is_always n)) ≡ true → Good n
  good_parts n good =
      let both = and_both (p.is_good n && q.is_good n) (is_other (key n) (q.names n) && is_always n) good in
      let goods = and_both (p.is_good n) (q.is_good n) both.0 in
      let rest = and_both (is_other (key n) (q.names n)) (is_always n) both.1 in
      record { p_good = goods.0; q_good = goods.1; apart = rest.0; always = rest.1 }

  one_printed : (n : N) (c : Context) (b : Bool) (v : A) (ms : Members) → Good n → FitsOne b (q.Fits c v) (p.Fits c v)
      → all_tokens (if b then q.shown n v else p.shown n v) ++ tokens_of_members ms
      ≡ tokens_of_members (if b then q.before n v ms else p.before n v ms)
  one_printed n c true v ms good fits = of_q.printed n c v ms good.q_good fits
  one_printed n c false v ms good fits = of_p.printed n c v ms good.p_good fits

  one_back : (n : N) (c : Context) (b : Bool) (v : A) (ms : Members) → is_second v ≡ b → Good n
      → FitsOne b (q.Fits c v) (p.Fits c v) → AreAbsent (p.names n) ms → AreAbsent (q.names n) ms
      → (if has (key n) (if b then q.before n v ms else p.before n v ms)
      then p.taken n c (if b then q.before n v ms else p.before n v ms)
      else q.taken n c (if b then q.before n v ms else p.before n v ms)) ≡ Ok (v, ms)
  one_back n c true v ms is good fits free_p free_q =
      let gone = of_q.apart n v ms (key n) good.apart (free n ms free_p) in
      ap (λ (o : Option (Json × Members)). if is_some o then p.taken n c (q.before n v ms) else q.taken n c
      (q.before n v ms))
      gone
      ∙ of_q.back n c v ms good.q_good fits free_q
  one_back n c false v ms is good fits free_p free_q =
      ap (λ (b : Bool). if b then p.taken n c (p.before n v ms) else q.taken n c (p.before n v ms))
      (there n v ms is good.always)
      ∙ of_p.back n c v ms good.p_good fits free_p

  one_apart : (n : N) (b : Bool) (v : A) (ms : Members) (name : List ℕ) → is_other name (p.names n) ≡ true
      → is_other name (q.names n) ≡ true → first_of name ms ≡ None
      → first_of name (if b then q.before n v ms else p.before n v ms) ≡ None
  one_apart n true v ms name of_first of_second none = of_q.apart n v ms name of_second none
  one_apart n false v ms name of_first of_second none = of_p.apart n v ms name of_first none

  one_numbers : (n : N) (c : Context) (b : Bool) (v : A) (ms : Members) → Good n → FitsOne b (q.Fits c v) (p.Fits c v)
      → MembersHaveNumbers ms → MembersHaveNumbers (if b then q.before n v ms else p.before n v ms)
  one_numbers n c true v ms good fits have = of_q.numbers n c v ms good.q_good fits have
  one_numbers n c false v ms good fits have = of_p.numbers n c v ms good.p_good fits have

  one_shallow : (n : N) (b : Bool) (v : A) (ms : Members) (d : ℕ) → max p.deep q.deep ≤ d → members_depth ms ≤ d
      → members_depth (if b then q.before n v ms else p.before n v ms) ≤ d
  one_shallow n true v ms d deep rest = of_q.shallow n v ms d (omega (arith, deep)) rest
  one_shallow n false v ms d deep rest = of_p.shallow n v ms d (omega (arith, deep)) rest

  pub present_comes : ComesBack (present_part key is_always is_second p q)
  present_comes = record {
    printed = λ n c v ms good fits. one_printed n c (is_second v) v ms (good_parts n good) fits;
    back = λ n c v ms good fits absent.
        let parts = absent_parts (p.names n) (q.names n) ms absent in
        one_back n c (is_second v) v ms refl (good_parts n good) fits parts.0 parts.1;
    apart = λ n v ms name differs none.
        let parts = other_parts name (p.names n) (q.names n) differs in
        one_apart n (is_second v) v ms name parts.0 parts.1 none;
    numbers = λ n c v ms good fits have. one_numbers n c (is_second v) v ms (good_parts n good) fits have;
    shallow = λ n v ms d deep rest. one_shallow n (is_second v) v ms d deep rest;
  }
