-- A part with another one that follows from it comes back.
use Rattle.std.proofs.Common.{◌≡◌, ℕ, Bool, true, false, ◌&&◌, List, [], ◌∷◌, ◌++◌, Ok}
use Rattle.std.proofs.Common.{append_assoc, arith, refl, ap, ◌∙◌}
use Rattle.std.specs.Prelude.{if◌then◌else◌}
use Rattle.json.specs.Json.{Members}
use Rattle.json.specs.Token.{Token}
use Rattle.mp4_declared.specs.declared.context.Context.{Context}
use Rattle.mp4_shown.specs.Taking.{Taking, ◌>>=◌}
use Rattle.mp4_shown_json.specs.Tokens.{all_tokens}
use Rattle.mp4_shown_json.specs.Whole.{tokens_of_members}
use Rattle.mp4_read_back.specs.ComesBack.{AreAbsent, ComesBack, Part, are_others, is_other}
use Rattle.mp4_read_back.specs.ComesBackLaws.{absent_parts, and_both, other_parts, still_absent, tokens_append}
use Rattle.mp4_read_back.specs.Chosen.{IsChoice, then_part}

module _ {M N A B : Type 0} (a : Part M A) (b : Part N B) (pick : M → A → N) (all : M → List (List ℕ))
    (are_good : M → Bool) (of_a : ComesBack a) (of_b : ComesBack b) (is : IsChoice b pick all are_good) where
  abbrev whole : Part M (A × B)
  whole = then_part a b pick all are_good

  record Good (n : M) : Type 0 where
    first : a.is_good n ≡ true
    second : are_good n ≡ true
    names : are_others (a.names n) (all n) ≡ true

  good_parts : (n : M) → whole.is_good n ≡ true → Good n
  good_parts n good =
      let both = and_both (a.is_good n && are_good n) (are_others (a.names n) (all n)) good in
      let each = and_both (a.is_good n) (are_good n) both.0 in
      record { first = each.0; second = each.1; names = both.1 }

  abbrev rest_of : M → A × B → Members → Members
  rest_of n v ms = b.before (pick n v.0) v.1 ms

  then_printed : (n : M) (c : Context) (v : A × B) (ms : Members) → Good n → whole.Fits c v
      → all_tokens (whole.shown n v) ++ tokens_of_members ms ≡ tokens_of_members (whole.before n v ms)
  then_printed n c v ms good fits =
      let xs = a.shown n v.0 in
      let ys = b.shown (pick n v.0) v.1 in
      ap (λ (ts : List Token). ts ++ tokens_of_members ms) (tokens_append xs ys)
      ∙ append_assoc (all_tokens xs) (all_tokens ys) (tokens_of_members ms)
      ∙ ap (λ (ts : List Token). all_tokens xs ++ ts)
      (of_b.printed (pick n v.0) c v.1 ms (is.good n v.0 good.second) fits.1)
      ∙ of_a.printed n c v.0 (rest_of n v ms) good.first fits.0

  then_back : (n : M) (c : Context) (v : A × B) (ms : Members) → Good n → whole.Fits c v
      → AreAbsent (whole.names n) ms → whole.taken n c (whole.before n v ms) ≡ Ok (v, ms)
  then_back n c v ms good fits free =
      let parts = absent_parts (a.names n) (all n) ms free in
      let own = still_absent b of_b (a.names n) (pick n v.0) v.1 ms (is.apart n v.0 (a.names n) good.names) parts.0 in
      ap (λ (t : Taking (A × Members)). t >>= λ p. b.taken (pick n p.0) c p.1 >>= λ q. Ok ((p.0, q.0), q.1))
      (of_a.back n c v.0 (rest_of n v ms) good.first fits.0 own)
      ∙ ap (λ (t : Taking (B × Members)). t >>= λ q. Ok ((v.0, q.0), q.1))
      (of_b.back (pick n v.0) c v.1 ms (is.good n v.0 good.second) fits.1 (is.free n v.0 ms parts.1))

  -- a name that is none of all is none of those that are chosen
  chosen_apart : (n : M) (x : A) (name : List ℕ) → is_other name (all n) ≡ true
      → is_other name (b.names (pick n x)) ≡ true
  chosen_apart n x name differs =
      (and_both (is_other name (b.names (pick n x))) true
      (is.apart n x (name ∷ []) (ap (λ (t : Bool). t && true) differs))).0

  pub then_comes : ComesBack whole
  then_comes = record {
    printed = λ n c v ms good fits. then_printed n c v ms (good_parts n good) fits;
    back = λ n c v ms good fits free. then_back n c v ms (good_parts n good) fits free;
    apart = λ n v ms name differs none.
        let parts = other_parts name (a.names n) (all n) differs in
        of_a.apart n v.0 (rest_of n v ms) name parts.0
        (of_b.apart (pick n v.0) v.1 ms name (chosen_apart n v.0 name parts.1) none);
    numbers = λ n c v ms good fits have.
        let goods = good_parts n good in
        of_a.numbers n c v.0 (rest_of n v ms) goods.first fits.0
        (of_b.numbers (pick n v.0) c v.1 ms (is.good n v.0 goods.second) fits.1 have);
    shallow = λ n v ms d deep rest.
        of_a.shallow n v.0 (rest_of n v ms) d (omega (arith, deep))
        (of_b.shallow (pick n v.0) v.1 ms d (omega (arith, deep)) rest);
  }

-- ---- a choice between two

-- the names that are chosen by a condition on the first value
abbrev pub choose : {M N A : Type 0} → (A → Bool) → (M → N) → (M → N) → M → A → N
choose holds this that n x = if holds x then this n else that n

module _ {M N A B : Type 0} (b : Part N B) (holds : A → Bool) (this that : M → N) where
  abbrev pub all_of_both : M → List (List ℕ)
  all_of_both n = b.names (this n) ++ b.names (that n)

  abbrev pub both_good : M → Bool
  both_good n = b.is_good (this n) && b.is_good (that n)

  by_choice : (P : N → Type 0) (n : M) (t : Bool) → P (this n) → P (that n) → P (if t then this n else that n)
  by_choice P n true p q = p
  by_choice P n false p q = q

  others_both : (os xs ys : List (List ℕ)) → are_others os (xs ++ ys) ≡ true
      → (are_others os xs ≡ true) × (are_others os ys ≡ true)
  others_both [] xs ys apart = (refl, refl)
  others_both (o ∷ os) xs ys apart =
      let both = and_both (is_other o (xs ++ ys)) (are_others os (xs ++ ys)) apart in
      let here = other_parts o xs ys both.0 in
      let rest = others_both os xs ys both.1 in (
        ap (λ (t : Bool). t && are_others os xs) here.0 ∙ rest.0,
        ap (λ (t : Bool). t && are_others os ys) here.1 ∙ rest.1,
      )

  pub two_choices : IsChoice b (choose holds this that) all_of_both both_good
  two_choices = record {
    good = λ n x good.
        let both = and_both (b.is_good (this n)) (b.is_good (that n)) good in
        by_choice (λ m. b.is_good m ≡ true) n (holds x) both.0 both.1;
    free = λ n x ms free.
        let parts = absent_parts (b.names (this n)) (b.names (that n)) ms free in
        by_choice (λ m. AreAbsent (b.names m) ms) n (holds x) parts.0 parts.1;
    apart = λ n x others apart.
        let both = others_both others (b.names (this n)) (b.names (that n)) apart in
        by_choice (λ m. are_others others (b.names m) ≡ true) n (holds x) both.0 both.1;
  }
