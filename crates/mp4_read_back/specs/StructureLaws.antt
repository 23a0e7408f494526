-- These parts come back.
use Rattle.std.proofs.Common.{◌≡◌, ℕ, ◌≤◌, Bool, true, false, ◌&&◌, List, [], ◌∷◌, ◌++◌, None, Ok, Some, Option}
use Rattle.std.proofs.Common.{append_assoc, append-nil, arith, refl, sym, ap, ◌∙◌}
use Rattle.std.specs.Prelude.{if◌then◌else◌, nat_lt}
use Rattle.std.proofs.lemmas.Bool.{lt-ltb}
use Rattle.json.specs.Json.{Json, Members, no_members, object}
use Rattle.json.specs.Token.{Token}
use Rattle.json.specs.Tree.{MembersHaveNumbers, members_depth}
use Rattle.mp4_declared.specs.declared.context.Context.{Context}
use Rattle.mp4_shown.specs.Event.{Text, end_group}
use Rattle.mp4_shown.specs.Numbers.{NumberName, is_hidden, shown_number}
use Rattle.mp4_shown.specs.Object.{all_of, ended, first_of, members_in}
use Rattle.mp4_shown.specs.TakenNumbers.{number_taken}
use Rattle.mp4_shown.specs.TakenShapes.{map_taken, taken_if}
use Rattle.mp4_shown.specs.Taking.{Taking, expect, refused, within, ◌>>=◌}
use Rattle.mp4_shown.specs.declared.taken.error.Reason.TheVariants.{NoVersion}
use Rattle.mp4_shown_json.specs.Tokens.{all_tokens}
use Rattle.mp4_shown_json.specs.Whole.{tokens_of_members}
use Rattle.mp4_read_back.specs.ComesBack.{AreAbsent, ComesBack, Part, are_others, is_other}
use Rattle.mp4_read_back.specs.ComesBackLaws.{absent_parts, and_both, members_end, none_absent, other_parts}
use Rattle.mp4_read_back.specs.ComesBackLaws.{still_absent}
use Rattle.mp4_read_back.specs.ComesBackLaws.{tokens_append}
use Rattle.mp4_read_back.specs.FieldLaws.{one_again}
use Rattle.mp4_read_back.specs.NumberParts.{is_good_as, names_as, number_part}
use Rattle.mp4_read_back.specs.NumberLaws.{number_printed, one_apart}
use Rattle.mp4_read_back.specs.Structure.{FitsOrNone, before_or_none, full_part, group_part, optional_part}
use Rattle.mp4_read_back.specs.Structure.{shown_or_none}
use Rattle.mp4_read_back.specs.Widths.{u8_comes, u24_comes}

-- ---- a part that is present under a condition

module _ {N A : Type 0} (holds : Context → Bool) (p : Part N A) (comes : ComesBack p) where
  optional_printed : (n : N) (c : Context) (b : Bool) (v : Option A) (ms : Members) → p.is_good n ≡ true
      → FitsOrNone p.Fits c b v
      → all_tokens (shown_or_none p.shown n v) ++ tokens_of_members ms
      ≡ tokens_of_members (before_or_none p.before n v ms)
  optional_printed n c b (Some x) ms good fits = comes.printed n c x ms good fits.1
  optional_printed n c b None ms good fits = refl

  optional_back : (n : N) (c : Context) (b : Bool) (v : Option A) (ms : Members) → p.is_good n ≡ true
      → FitsOrNone p.Fits c b v → AreAbsent (p.names n) ms
      → taken_if b (p.taken n c) (before_or_none p.before n v ms) ≡ Ok (v, ms)
  optional_back n c true (Some x) ms good fits absent =
      ap (λ (t : Taking (A × Members)). map_taken (λ (y : A). Some y) t) (comes.back n c x ms good fits.1 absent)
  optional_back n c true None ms good fits absent = absurd cc
  optional_back n c false (Some x) ms good fits absent = let no = fits.0 in absurd cc
  optional_back n c false None ms good fits absent = refl

  optional_apart : (n : N) (v : Option A) (ms : Members) (name : List ℕ) → is_other name (p.names n) ≡ true
      → first_of name ms ≡ None → first_of name (before_or_none p.before n v ms) ≡ None
  optional_apart n (Some x) ms name other none = comes.apart n x ms name other none
  optional_apart n None ms name other none = none

  optional_numbers : (n : N) (c : Context) (b : Bool) (v : Option A) (ms : Members) → p.is_good n ≡ true
      → FitsOrNone p.Fits c b v → MembersHaveNumbers ms → MembersHaveNumbers (before_or_none p.before n v ms)
  optional_numbers n c b (Some x) ms good fits have = comes.numbers n c x ms good fits.1 have
  optional_numbers n c b None ms good fits have = have

  optional_shallow : (n : N) (v : Option A) (ms : Members) (d : ℕ) → p.deep ≤ d → members_depth ms ≤ d
      → members_depth (before_or_none p.before n v ms) ≤ d
  optional_shallow n (Some x) ms d deep rest = comes.shallow n x ms d deep rest
  optional_shallow n None ms d deep rest = rest

  pub optional_comes : ComesBack (optional_part holds p)
  optional_comes = record {
    printed = λ n c v ms good fits. optional_printed n c (holds c) v ms good fits;
    back = λ n c v ms good fits absent. optional_back n c (holds c) v ms good fits absent;
    apart = optional_apart;
    numbers = λ n c v ms good fits have. optional_numbers n c (holds c) v ms good fits have;
    shallow = optional_shallow;
  }

-- ---- a version, flags, and what follows them

abbrev version_part : Part NumberName ℕ
version_part = number_part (λ _. 1) (λ _. 8) 8

abbrev flags_part : Part NumberName ℕ
flags_part = number_part (λ _. 3) (λ _. 24) 24

module _ {N A : Type 0} (limit : ℕ) (p : Part N A) (comes : ComesBack p) where
  abbrev Names : Type 0
  Names = NumberName × (NumberName × N)

  abbrev Value : Type 0
  Value = ℕ × (ℕ × A)

  abbrev full : Part Names Value
  full = full_part limit p

  abbrev in_version : Value → Context
  in_version v = record { version = v.0; flags = v.1.0 }

  abbrev rest_of : Names → Value → Members → Members
  rest_of n v ms = p.before n.1.1 v.1.1 ms

  abbrev after_version : Names → Value → Members → Members
  after_version n v ms = flags_part.before n.1.0 v.1.0 (rest_of n v ms)

  full_printed : (n : Names) (v : Value) (ms : Members) → p.is_good n.1.1 ≡ true → p.Fits (in_version v) v.1.1
      → all_tokens (full.shown n v) ++ tokens_of_members ms ≡ tokens_of_members (full.before n v ms)
  full_printed n v ms good fits =
      let a = shown_number n.0 v.0 in
      let b = shown_number n.1.0 v.1.0 in
      let s = p.shown n.1.1 v.1.1 in
      ap (λ (ts : List Token). ts ++ tokens_of_members ms) (tokens_append (a ++ b) s)
      ∙ append_assoc (all_tokens (a ++ b)) (all_tokens s) (tokens_of_members ms)
      ∙ ap (λ (ts : List Token). all_tokens (a ++ b) ++ ts) (comes.printed n.1.1 (in_version v) v.1.1 ms good fits)
      ∙ ap (λ (ts : List Token). ts ++ tokens_of_members (rest_of n v ms)) (tokens_append a b)
      ∙ append_assoc (all_tokens a) (all_tokens b) (tokens_of_members (rest_of n v ms))
      ∙ ap (λ (ts : List Token). all_tokens a ++ ts)
      (number_printed n.1.0.0.now n.1.0.1 n.1.0.2.now v.1.0 (rest_of n v ms) (is_hidden n.1.0.1 v.1.0))
      ∙ number_printed n.0.0.now n.0.1 n.0.2.now v.0 (after_version n v ms) (is_hidden n.0.1 v.0)

  -- the tests of a part with a version and flags
  record Good (n : Names) : Type 0 where
    version : version_part.is_good n.0 ≡ true
    flags : flags_part.is_good n.1.0 ≡ true
    rest : p.is_good n.1.1 ≡ true
    version_apart : are_others (version_part.names n.0) (flags_part.names n.1.0 ++ p.names n.1.1) ≡ true
    flags_apart : are_others (flags_part.names n.1.0) (p.names n.1.1) ≡ true

  good_parts : (n : Names) → full.is_good n ≡ true → Good n
  good_parts n good =
      let both = and_both (is_good_as 8 n.0.0.now n.0.1 && (is_good_as 24 n.1.0.0.now n.1.0.1 && p.is_good n.1.1))
      (are_others (names_as n.0.0.now n.0.1) (names_as n.1.0.0.now n.1.0.1 ++ p.names n.1.1)
      && are_others (names_as n.1.0.0.now n.1.0.1) (p.names n.1.1)) good in
      let goods = and_both (is_good_as 8 n.0.0.now n.0.1)
      (is_good_as 24 n.1.0.0.now n.1.0.1 && p.is_good n.1.1) both.0 in
      let goods_after = and_both (is_good_as 24 n.1.0.0.now n.1.0.1) (p.is_good n.1.1) goods.1 in
      let others = and_both (are_others (names_as n.0.0.now n.0.1) (names_as n.1.0.0.now n.1.0.1 ++ p.names n.1.1))
      (are_others (names_as n.1.0.0.now n.1.0.1) (p.names n.1.1)) both.1 in
      record {
        version = goods.0;
        flags = goods_after.0;
        rest = goods_after.1;
        version_apart = others.0;
        flags_apart = others.1;
      }

  others_both : (os xs ys : List (List ℕ)) → are_others os (xs ++ ys) ≡ true
      → (are_others os xs ≡ true) × (are_others os ys ≡ true)
  others_both [] xs ys apart = (refl, refl)
  others_both (o ∷ os) xs ys apart =
      let both = and_both (is_other o (xs ++ ys)) (are_others os (xs ++ ys)) apart in
      let here = other_parts o xs ys both.0 in
      let rest = others_both os xs ys both.1 in (
        ap (λ (b : Bool). b && are_others os xs) here.0 ∙ rest.0,
        ap (λ (b : Bool). b && are_others os ys) here.1 ∙ rest.1,
      )

  full_back : (n : Names) (c : Context) (v : Value) (ms : Members) → Good n → full.Fits c v
      → AreAbsent (full.names n) ms → full.taken n c (full.before n v ms) ≡ Ok (v, ms)
  full_back n c v ms good fits absent =
      let names = absent_parts (version_part.names n.0) (flags_part.names n.1.0 ++ p.names n.1.1) ms absent in
      let others = absent_parts (flags_part.names n.1.0) (p.names n.1.1) ms names.1 in
      let apart = others_both (version_part.names n.0) (flags_part.names n.1.0) (p.names n.1.1) good.version_apart in
      let version_free = still_absent flags_part u24_comes (version_part.names n.0) n.1.0 v.1.0 (rest_of n v ms) apart.0
      (still_absent p comes (version_part.names n.0) n.1.1 v.1.1 ms apart.1 names.0) in
      let flags_free = still_absent p comes (flags_part.names n.1.0) n.1.1 v.1.1 ms good.flags_apart others.0 in
      ap (λ (t : Taking (ℕ × Members)). t >>= λ q. expect (nat_lt q.0 limit) n.0.0.now NoVersion >>= λ _.
      number_taken n.1.0 24 q.1 >>= λ f.
      map_taken (λ (x : A). (q.0, (f.0, x))) (p.taken n.1.1 (record { version = q.0; flags = f.0 }) f.1))
      (u8_comes.back n.0 c v.0 (after_version n v ms) good.version fits.1 version_free)
      ∙ ap (λ (b : Bool). (if b then Ok tt else refused n.0.0.now NoVersion) >>= λ _.
      number_taken n.1.0 24 (after_version n v ms) >>= λ f.
      map_taken (λ (x : A). (v.0, (f.0, x))) (p.taken n.1.1 (record { version = v.0; flags = f.0 }) f.1))
      (lt-ltb v.0 limit fits.0)
      ∙ ap (λ (t : Taking (ℕ × Members)). t >>= λ f.
      map_taken (λ (x : A). (v.0, (f.0, x))) (p.taken n.1.1 (record { version = v.0; flags = f.0 }) f.1))
      (u24_comes.back n.1.0 c v.1.0 (rest_of n v ms) good.flags fits.2 flags_free)
      ∙ ap (λ (t : Taking (A × Members)). map_taken (λ (x : A). (v.0, (v.1.0, x))) t)
      (comes.back n.1.1 (in_version v) v.1.1 ms good.rest fits.3 others.1)

  full_apart : (n : Names) (v : Value) (ms : Members) (name : List ℕ) → is_other name (full.names n) ≡ true
      → first_of name ms ≡ None → first_of name (full.before n v ms) ≡ None
  full_apart n v ms name other none =
      let first = other_parts name (version_part.names n.0) (flags_part.names n.1.0 ++ p.names n.1.1) other in
      let second = other_parts name (flags_part.names n.1.0) (p.names n.1.1) first.1 in
      u8_comes.apart n.0 v.0 (after_version n v ms) name first.0
      (u24_comes.apart n.1.0 v.1.0 (rest_of n v ms) name second.0 (comes.apart n.1.1 v.1.1 ms name second.1 none))

  pub full_comes : ComesBack full
  full_comes = record {
    printed = λ n c v ms good fits. full_printed n v ms (good_parts n good).rest fits.3;
    back = λ n c v ms good fits absent. full_back n c v ms (good_parts n good) fits absent;
    apart = full_apart;
    numbers = λ n c v ms good fits have.
        let goods = good_parts n good in
        u8_comes.numbers n.0 c v.0 (after_version n v ms) goods.version fits.1
        (u24_comes.numbers n.1.0 c v.1.0 (rest_of n v ms) goods.flags fits.2
        (comes.numbers n.1.1 (in_version v) v.1.1 ms goods.rest fits.3 have));
    shallow = λ n v ms d deep rest.
        u8_comes.shallow n.0 v.0 (after_version n v ms) d (omega arith)
        (u24_comes.shallow n.1.0 v.1.0 (rest_of n v ms) d (omega arith)
        (comes.shallow n.1.1 v.1.1 ms d deep rest));
  }

-- ---- a part whose fields are the members of one member

module _ {N A : Type 0} (p : Part N A) (comes : ComesBack p) where
  abbrev inside : Text × N → A → Members
  inside n v = p.before n.1 v no_members

  group_printed : (n : Text × N) (c : Context) (v : A) (ms : Members) → p.is_good n.1 ≡ true → p.Fits c v
      → all_tokens ((group_part p).shown n v) ++ tokens_of_members ms
      ≡ tokens_of_members ((group_part p).before n v ms)
  group_printed n c v ms good fits =
      let events = p.shown n.1 v in
      ap (λ (ts : List Token). Token.key n.0.now ∷ Token.begin_object ∷ (ts ++ tokens_of_members ms))
      (tokens_append events (end_group ∷ [])
      ∙ ap (λ (ts : List Token). ts ++ Token.end_object ∷ [])
      (sym (append-nil (all_tokens events)) ∙ comes.printed n.1 c v no_members good fits)
      ∙ sym (members_end (inside n v)))

  group_back : (n : Text × N) (c : Context) (v : A) (ms : Members) → p.is_good n.1 ≡ true → p.Fits c v
      → first_of n.0.now ms ≡ None
      → (group_part p).taken n c ((group_part p).before n v ms) ≡ Ok (v, ms)
  group_back n c v ms good fits none =
      ap (λ (t : Taking (Json × Members)). t >>= λ q. members_in n.0.now q.0 >>= λ is.
      within n.0.now (all_of (p.taken n.1 c) is) >>= λ x. Ok (x, q.1))
      (one_again n.0.now (object (inside n v)) ms none)
      ∙ ap (λ (t : Taking (A × Members)). within n.0.now (t >>= λ q. ended q.1 >>= λ _. Ok q.0) >>= λ x. Ok (x, ms))
      (comes.back n.1 c v no_members good fits (none_absent (p.names n.1)))

  pub group_comes : ComesBack (group_part p)
  group_comes = record {
    printed = group_printed;
    back = λ n c v ms good fits absent. group_back n c v ms good fits absent.0;
    apart = λ n v ms name other none. one_apart n.0.now name (object (inside n v)) ms other none;
    numbers = λ n c v ms good fits have. (comes.numbers n.1 c v no_members good fits tt, have);
    shallow = λ n v ms d deep rest.
        let nested : members_depth (inside n v) ≤ p.deep =
        comes.shallow n.1 v no_members p.deep (omega arith) (omega arith) in
        omega (arith, nested, deep, rest);
  }
