-- Numbers come back.
use Rattle.std.proofs.Common.{◌≡◌, ℕ, ◌<◌, ◌≤◌, ◌^◌, Bool, true, false, not, ◌&&◌, List, [], ◌∷◌, ◌++◌, None, Ok, Some}
use Rattle.std.proofs.Common.{Option}
use Rattle.std.proofs.Common.{arith, refl, sym, ap, ◌∙◌, subst, get_or, length, decimal}
use Rattle.std.specs.Prelude.{min, ◌*◌, if◌then◌else◌, nat_lt, ◌==◌, Result}
use Rattle.std.specs.Str.{all_ascii_digits, bytes_eq}
use Rattle.std.specs.Str.Parse.{IsNumeral, digits_value, without_leading_plus}
use Rattle.std.proofs.lemmas.Bool.{eqb-true, leb-true, lt-ltb, ne_eqb}
use Rattle.std.proofs.lemmas.Fmt.{decimal_is_IsNumeral}
use Rattle.std.proofs.lemmas.Slice.Eq.{bytes_eq-Decides}
use Rattle.std.proofs.lemmas.Str.Parse.{digit_at, numerals_by_value, tells_all_ascii_digits, without_leading_plus_none}
use Rattle.std.proofs.Math.Nat.{pow-le-pow_right}
use Rattle.json.specs.Json.{Json, Members, member}
use Rattle.json.specs.Json as json
use Rattle.json.specs.Tree.{MembersHaveNumbers, members_depth}
use Rattle.json.proofs.Printed.Decimals.{IsNumber-decimal}
use Rattle.mp4_declared.specs.declared.context.Context.{Context}
use Rattle.mp4_shown.specs.Event.{Meaning, Shown, Event, field, named}
use Rattle.mp4_shown.specs.Event as shown
use Rattle.mp4_shown.specs.Numbers.{is_hidden, named_in, value_as}
use Rattle.mp4_shown.specs.Object.{first_of, take_out}
use Rattle.mp4_shown.specs.TakenNumbers.{absent, agrees, at_path, is_text, meaning_after, meaning_in, number_by}
use Rattle.mp4_shown.specs.TakenNumbers.{number_or_absent}
use Rattle.mp4_shown.specs.TakenValues.{is_numeral, number_in, number_of_digits, or_else, whole_in}
use Rattle.mp4_shown.specs.Taking.{Taking, expect, ◌>>=◌}
use Rattle.mp4_shown.specs.declared.number_name.NumberAs.{NumberAs}
use Rattle.mp4_shown.specs.declared.number_name.NumberAs.TheVariants as number_as
use Rattle.mp4_shown.specs.declared.taken.error.Reason.{Reason}
use Rattle.mp4_shown.specs.declared.taken.error.Reason.TheVariants as reasons
use Rattle.mp4_shown_json.specs.Tokens.{all_tokens}
use Rattle.mp4_shown_json.specs.Whole.{tokens_of_members}
use Rattle.hex.specs.Hex.{encode_lower}
use Rattle.mp4_shown_json.specs.Fixed.{fixed_text}
use Rattle.mp4_shown_json.specs.Tokens.{last_bytes}
use Rattle.mp4_read_back.specs.ComesBack.{AreAbsent, ComesBack, is_other}
use Rattle.mp4_read_back.specs.ComesBackLaws.{and_both}
use Rattle.mp4_read_back.specs.Fields.{field_before}
use Rattle.mp4_read_back.specs.FixedLaws.{fixed_is_number}
use Rattle.mp4_read_back.specs.FixedNumbers.{fixed_number, short_by}
use Rattle.mp4_read_back.specs.HexLaws.{hex_again}
use Rattle.mp4_read_back.specs.FieldLaws.{field_printed, first_past, out_absent, out_again}
use Rattle.mp4_read_back.specs.NumberParts.{is_good_as, meaning_name, named_by, names_as, number_before, number_part}

-- ---- the decimal of a number

none_is : (n : ℕ) → 0 < n → (n == 0) ≡ false
none_is n some = ne_eqb n 0 (λ e. omega (arith, e, some))

-- a numeral passes its test
pub numeral_passes : (ds : List ℕ) → IsNumeral 10 ds → is_numeral ds ≡ true
numeral_passes ds numeral =
    ap (λ (b : Bool). not b && all_ascii_digits ds) (none_is (length ds) numeral.0)
    ∙ (numerals_by_value _ tells_all_ascii_digits).from ds numeral.1

-- the decimal of a number is that number
pub whole_of_decimal : (n : ℕ) → n < 2 ^ 64 → whole_in (json.number (decimal n)) ≡ Some n
whole_of_decimal n small =
    let numeral = decimal_is_IsNumeral n small in
    let ds = decimal n in
    let plain : without_leading_plus ds ≡ ds =
    without_leading_plus_none ds
    (λ (e : get_or ds 0 0 ≡ 43). omega (arith, e, (digit_at ds 0 numeral.0.1 numeral.0.0).0)) in
    ap number_of_digits plain
    ∙ ap (λ (b : Bool). if b && nat_lt (digits_value 10 ds) (2 ^ 64) then Some (digits_value 10 ds) else None)
    (numeral_passes ds numeral.0)
    ∙ ap (λ (k : ℕ). if nat_lt k (2 ^ 64) then Some k else None) numeral.1
    ∙ ap (λ (b : Bool). if b then Some n else None) (lt-ltb n (2 ^ 64) small)

pub whole_again : (n : ℕ) → n < 2 ^ 64
    → or_else reasons.NotWhole (λ (m : ℕ). Ok m) (whole_in (json.number (decimal n))) ≡ Ok n
whole_again n small =
    ap (λ (o : Option ℕ). or_else reasons.NotWhole (λ (m : ℕ). Ok m) o) (whole_of_decimal n small)

-- ---- meanings

meaning_if : (b : Bool) (n : ℕ) (m : List ℕ) (o : Option (List ℕ))
    → (if b then named n m else named_by n o) ≡ named_by n (if b then Some m else o)
meaning_if true n m o = refl
meaning_if false n m o = refl

pub meaning_found : (ms : List Meaning) (n : ℕ) → named_in ms n ≡ named_by n (meaning_in ms n)
meaning_found [] n = refl
meaning_found (m ∷ ms) n =
    ap (λ (s : Shown). if m.0 == n then named n m.1.now else s) (meaning_found ms n)
    ∙ meaning_if (m.0 == n) n m.1.now (meaning_in ms n)

-- ---- printed

pub number_printed : (name : List ℕ) (a : NumberAs) (meanings : List Meaning) (n : ℕ) (ms : Members) (hidden : Bool)
    → all_tokens (if hidden then [] else field name (value_as meanings a n) ∷ []) ++ tokens_of_members ms
    ≡ tokens_of_members (if hidden then ms else field_before name (value_as meanings a n) ms)
number_printed name a meanings n ms true = refl
number_printed name a meanings n ms false = field_printed name (value_as meanings a n) ms

-- ---- taken

-- a member of a number that stands before others
module _ (name : List ℕ) (meanings : List Meaning) (bits n : ℕ) (ms : Members) (fits : n < 2 ^ bits)
    (small : n < 2 ^ 64)
    (none : first_of name ms ≡ None) where
  in_range : nat_lt n (2 ^ bits) ≡ true
  in_range = lt-ltb n (2 ^ bits) fits

  abbrev then_checked : NumberAs → Members → ℕ → Taking (ℕ × Members)
  then_checked a rest m =
      expect (nat_lt m (2 ^ bits)) name reasons.OutOfRange >>= λ _.
      meaning_after a name meanings m rest >>= λ left. Ok (m, left)

  -- a number that has one member, whose value it is
  taken_again : (a : NumberAs) (j : Json) (rest left : Members) → first_of name rest ≡ None → number_in a j ≡ Ok n
      → meaning_after a name meanings n rest ≡ Ok left
      → number_by name a meanings bits (member name j rest) ≡ Ok (n, left)
  taken_again a j rest left free is after =
      ap (λ (t : Taking (Option Json × Members)). t >>= λ p. at_path name (number_or_absent a p.0) >>= then_checked
      a p.1)
      (out_again name j rest free)
      ∙ ap (λ (r : Result ℕ Reason). at_path name r >>= then_checked a rest) is
      ∙ ap (λ (b : Bool). expect b name reasons.OutOfRange >>= λ _. meaning_after a name meanings n rest >>= λ l. Ok
      (n, l))
      in_range
      ∙ ap (λ (t : Taking Members). t >>= λ l. Ok (n, l)) after

  -- a number that is left out
  taken_hidden : (a : NumberAs) → absent a ≡ Ok n → meaning_after a name meanings n ms ≡ Ok ms
      → number_by name a meanings bits ms ≡ Ok (n, ms)
  taken_hidden a is after =
      ap (λ (t : Taking (Option Json × Members)). t >>= λ p. at_path name (number_or_absent a p.0) >>= then_checked
      a p.1)
      (out_absent name ms none)
      ∙ ap (λ (r : Result ℕ Reason). at_path name r >>= then_checked a ms) is
      ∙ ap (λ (b : Bool). expect b name reasons.OutOfRange >>= λ _. meaning_after a name meanings n ms >>= λ l. Ok
      (n, l))
      in_range
      ∙ ap (λ (t : Taking Members). t >>= λ l. Ok (n, l)) after

  same_text : (text : List ℕ) → is_text (Some text) (Some text) ≡ true
  same_text text = (bytes_eq-Decides text text).1 refl

  abbrev meaning_taken_from : List ℕ → Members → Option (List ℕ) → Taking Members
  meaning_taken_from second rest o =
      take_out second rest >>= λ p. expect (agrees o p.0) second reasons.Contradiction >>= λ _. Ok p.1

  named_again : (o : Option (List ℕ)) → not (bytes_eq (meaning_name name) name) ≡ true
      → first_of (meaning_name name) ms ≡ None → meaning_in meanings n ≡ o
      → number_by name number_as.Named meanings bits (field_before name (named_by n o) ms) ≡ Ok (n, ms)
  named_again None differs free is =
      taken_again number_as.Named (json.number (decimal n)) ms ms none (whole_again n small)
      (ap (λ (t : Taking (Option Json × Members)).
      t >>= λ p. expect (agrees (meaning_in meanings n) p.0) (meaning_name name) reasons.Contradiction >>= λ _. Ok p.1)
      (out_absent (meaning_name name) ms free))
  named_again (Some meaning) differs free is =
      taken_again number_as.Named (json.number (decimal n)) (member (meaning_name name) (json.string meaning) ms) ms
      (first_past name (meaning_name name) (json.string meaning) ms differs none) (whole_again n small)
      (ap (λ (t : Taking (Option Json × Members)).
      t >>= λ p. expect (agrees (meaning_in meanings n) p.0) (meaning_name name) reasons.Contradiction >>= λ _. Ok p.1)
      (out_again (meaning_name name) (json.string meaning) ms free)
      ∙ ap (λ (o : Option (List ℕ)). expect (is_text (Some meaning) o) (meaning_name name) reasons.Contradiction >>=
      λ _. Ok ms)
      is
      ∙ ap (λ (b : Bool). expect b (meaning_name name) reasons.Contradiction >>= λ _. Ok ms) (same_text meaning))

  reserved_again : (usual : ℕ) (hidden : Bool) → (n == usual) ≡ hidden
      → number_by name (number_as.Reserved usual) meanings bits
      (if hidden then ms else field_before name (shown.number n) ms) ≡ Ok (n, ms)
  reserved_again usual true is =
      taken_hidden (number_as.Reserved usual) (ap (λ (m : ℕ). Ok m) (sym (eqb-true n usual is))) refl
  reserved_again usual false is =
      taken_again (number_as.Reserved usual) (json.number (decimal n)) ms ms none (whole_again n small) refl

  pub number_again : (a : NumberAs) (most : ℕ) → is_good_as most name a ≡ true → n < 2 ^ most
      → AreAbsent (names_as name a) ms
      → number_by name a meanings bits (number_before name a meanings n ms) ≡ Ok (n, ms)
  number_again number_as.Plain most good within free =
      taken_again number_as.Plain (json.number (decimal n)) ms ms none (whole_again n small) refl
  number_again number_as.Named most good within free =
      ap (λ (s : Shown). number_by name number_as.Named meanings bits (field_before name s ms))
      (meaning_found meanings n)
      ∙ named_again (meaning_in meanings n) good free.1.0 refl
  number_again (number_as.Flags digits) most good within free =
      taken_again (number_as.Flags digits) (json.number (decimal n)) ms ms none (whole_again n small) refl
  number_again number_as.Date most good within free =
      taken_again number_as.Date (json.number (decimal n)) ms ms none (whole_again n small) refl
  number_again (number_as.Fixed points) most good within free =
      taken_again (number_as.Fixed points) (json.number (fixed_text false n points)) ms ms none
      (fixed_number n points (short_by n most points good within)) refl
  number_again (number_as.Hex count) most good within free =
      taken_again (number_as.Hex count) (json.string (encode_lower (last_bytes count n))) ms ms none
      (hex_again count n most (leb-true most (8 * min count 8) good) within) refl
  number_again (number_as.Reserved usual) most good within free = reserved_again usual (n == usual) refl

-- ---- names, numbers of JSON, and depth

-- one member of another name before others
pub one_apart : (name other : List ℕ) (j : Json) (ms : Members) → is_other other (name ∷ []) ≡ true
    → first_of other ms ≡ None → first_of other (member name j ms) ≡ None
one_apart name other j ms differs none =
    first_past other name j ms (and_both (not (bytes_eq name other)) true differs).0 none

pub named_apart : (name other : List ℕ) (n : ℕ) (o : Option (List ℕ)) (ms : Members)
    → is_other other (name ∷ meaning_name name ∷ []) ≡ true → first_of other ms ≡ None
    → first_of other (field_before name (named_by n o) ms) ≡ None
named_apart name other n None ms differs none =
    first_past other name (json.number (decimal n)) ms
    (and_both (not (bytes_eq name other)) (is_other other (meaning_name name ∷ [])) differs).0 none
named_apart name other n (Some meaning) ms differs none =
    let both = and_both (not (bytes_eq name other)) (is_other other (meaning_name name ∷ [])) differs in
    first_past other name (json.number (decimal n)) (member (meaning_name name) (json.string meaning) ms) both.0
    (one_apart (meaning_name name) other (json.string meaning) ms both.1 none)

reserved_apart : (name other : List ℕ) (n : ℕ) (ms : Members) (hidden : Bool) → is_other other (name ∷ []) ≡ true
    → first_of other ms ≡ None
    → first_of other (if hidden then ms else field_before name (shown.number n) ms) ≡ None
reserved_apart name other n ms true differs none = none
reserved_apart name other n ms false differs none = one_apart name other (json.number (decimal n)) ms differs none

pub number_apart : (name other : List ℕ) (a : NumberAs) (meanings : List Meaning) (n : ℕ) (ms : Members)
    → is_other other (names_as name a) ≡ true → first_of other ms ≡ None
    → first_of other (number_before name a meanings n ms) ≡ None
number_apart name other number_as.Plain meanings n ms differs none = one_apart name other _ ms differs none
number_apart name other number_as.Named meanings n ms differs none =
    ap (λ (s : Shown). first_of other (field_before name s ms)) (meaning_found meanings n)
    ∙ named_apart name other n (meaning_in meanings n) ms differs none
number_apart name other (number_as.Flags digits) meanings n ms differs none = one_apart name other _ ms differs none
number_apart name other number_as.Date meanings n ms differs none = one_apart name other _ ms differs none
number_apart name other (number_as.Fixed bits) meanings n ms differs none = one_apart name other _ ms differs none
number_apart name other (number_as.Hex count) meanings n ms differs none = one_apart name other _ ms differs none
number_apart name other (number_as.Reserved usual) meanings n ms differs none =
    reserved_apart name other n ms (n == usual) differs none

named_numbers : (name : List ℕ) (n : ℕ) (o : Option (List ℕ)) (ms : Members) → n < 2 ^ 64 → MembersHaveNumbers ms
    → MembersHaveNumbers (field_before name (named_by n o) ms)
named_numbers name n None ms small have = (IsNumber-decimal n small, have)
named_numbers name n (Some meaning) ms small have = (IsNumber-decimal n small, (tt, have))

reserved_numbers : (name : List ℕ) (n : ℕ) (ms : Members) (hidden : Bool) → n < 2 ^ 64 → MembersHaveNumbers ms
    → MembersHaveNumbers (if hidden then ms else field_before name (shown.number n) ms)
reserved_numbers name n ms true small have = have
reserved_numbers name n ms false small have = (IsNumber-decimal n small, have)

pub number_numbers : (name : List ℕ) (a : NumberAs) (most : ℕ) (meanings : List Meaning) (n : ℕ) (ms : Members)
    → is_good_as most name a ≡ true → n < 2 ^ 64 → MembersHaveNumbers ms
    → MembersHaveNumbers (number_before name a meanings n ms)
number_numbers name number_as.Plain most meanings n ms good small have = (IsNumber-decimal n small, have)
number_numbers name number_as.Named most meanings n ms good small have =
    subst (λ (s : Shown). MembersHaveNumbers (field_before name s ms)) (sym (meaning_found meanings n))
    (named_numbers name n (meaning_in meanings n) ms small have)
number_numbers name (number_as.Flags digits) most meanings n ms good small have = (IsNumber-decimal n small, have)
number_numbers name number_as.Date most meanings n ms good small have = (IsNumber-decimal n small, have)
number_numbers name (number_as.Fixed bits) most meanings n ms good small have =
    (fixed_is_number false n bits small, have)
number_numbers name (number_as.Hex count) most meanings n ms good small have = (tt, have)
number_numbers name (number_as.Reserved usual) most meanings n ms good small have =
    reserved_numbers name n ms (n == usual) small have

named_shallow : (name : List ℕ) (n : ℕ) (o : Option (List ℕ)) (ms : Members) (d : ℕ) → members_depth ms ≤ d
    → members_depth (field_before name (named_by n o) ms) ≤ d
named_shallow name n None ms d rest = omega (arith, rest)
named_shallow name n (Some meaning) ms d rest = omega (arith, rest)

reserved_shallow : (name : List ℕ) (n : ℕ) (ms : Members) (hidden : Bool) (d : ℕ) → members_depth ms ≤ d
    → members_depth (if hidden then ms else field_before name (shown.number n) ms) ≤ d
reserved_shallow name n ms true d rest = rest
reserved_shallow name n ms false d rest = omega (arith, rest)

pub number_shallow : (name : List ℕ) (a : NumberAs) (meanings : List Meaning) (n : ℕ) (ms : Members) (d : ℕ)
    → members_depth ms ≤ d → members_depth (number_before name a meanings n ms) ≤ d
number_shallow name number_as.Plain meanings n ms d rest = omega (arith, rest)
number_shallow name number_as.Named meanings n ms d rest =
    subst (λ (s : Shown). members_depth (field_before name s ms) ≤ d) (sym (meaning_found meanings n))
    (named_shallow name n (meaning_in meanings n) ms d rest)
number_shallow name (number_as.Flags digits) meanings n ms d rest = omega (arith, rest)
number_shallow name number_as.Date meanings n ms d rest = omega (arith, rest)
number_shallow name (number_as.Fixed bits) meanings n ms d rest = omega (arith, rest)
number_shallow name (number_as.Hex count) meanings n ms d rest = omega (arith, rest)
number_shallow name (number_as.Reserved usual) meanings n ms d rest =
    reserved_shallow name n ms (n == usual) d rest

-- ---- all of it

pub first_absent : (name : List ℕ) (a : NumberAs) (ms : Members) → AreAbsent (names_as name a) ms
    → first_of name ms ≡ None
first_absent name number_as.Plain ms free = free.0
first_absent name number_as.Named ms free = free.0
first_absent name (number_as.Flags digits) ms free = free.0
first_absent name number_as.Date ms free = free.0
first_absent name (number_as.Fixed bits) ms free = free.0
first_absent name (number_as.Hex count) ms free = free.0
first_absent name (number_as.Reserved usual) ms free = free.0

below_more : (n a b : ℕ) → n < 2 ^ a → a ≤ b → n < 2 ^ b
below_more n a b fits le =
    let more : 2 ^ a ≤ 2 ^ b = pow-le-pow_right {n = 2} (omega arith) {i = a} {j = b} le in
    omega (arith, fits, more)

pub number_comes : (width bits : Context → ℕ) (most : ℕ) → ((c : Context) → 256 ^ width c ≡ 2 ^ bits c)
    → ((c : Context) → bits c ≤ most) → most ≤ 64 → ComesBack (number_part width bits most)
number_comes width bits most same within all = record {
  printed = λ f c n ms good fits. number_printed f.0.now f.1 f.2.now n ms (is_hidden f.1 n);
  back = λ f c n ms good fits free.
      let small : n < 2 ^ bits c = subst (λ (m : ℕ). n < m) (same c) fits in
      let below = below_more n (bits c) most small (within c) in
      number_again f.0.now f.2.now (bits c) n ms small (below_more n most 64 below all)
      (first_absent f.0.now f.1 ms free)
      f.1 most good below free;
  apart = λ f n ms other differs none. number_apart f.0.now other f.1 f.2.now n ms differs none;
  numbers = λ f c n ms good fits have.
      let small : n < 2 ^ bits c = subst (λ (m : ℕ). n < m) (same c) fits in
      number_numbers f.0.now f.1 most f.2.now n ms good
      (below_more n most 64 (below_more n (bits c) most small (within c)) all) have;
  shallow = λ f n ms d deep rest. number_shallow f.0.now f.1 f.2.now n ms d rest;
}
