-- A fixed-point number comes back from its decimal.
use Rattle.std.proofs.Common.{◌≡◌, ℕ, zero, suc, ◌+◌, ◌*◌, ◌/◌, ◌%◌, ◌^◌, ◌<◌, ◌≤◌, Bool, true, false, List, []}
use Rattle.std.proofs.Common.{◌∷◌, ◌++◌}
use Rattle.std.proofs.Common.{length, min, decimal, refl, sym, ap, ap₂, ◌∙◌, append-nil, arith}
use Rattle.std.proofs.lemmas.Bool.{eq-eqb, eqb-true, lt-ltb, le-leb, ne_eqb}
use Rattle.std.proofs.lemmas.Float.Parse.{scan_numeral-text_of}
use Rattle.std.proofs.lemmas.Fmt.{decimal_is_IsNumeral, decimal_digit, first_decimal}
use Rattle.std.proofs.lemmas.Nat.{div-add-mod', le-div, mul-le, mul-pow, pow_pos}
use Rattle.std.proofs.lemmas.Str.{digit_value_digit}
use Rattle.std.proofs.lemmas.Str.Parse.{tells_digits}
use Rattle.std.proofs.Math.Nat.{div-eq_of_lt-le, div-le_self, div-lt_iff_lt-mul, mod-lt, mul-div_cancel}
use Rattle.std.proofs.Math.Nat.{pow-le-pow_right, pow-suc}
use Rattle.std.specs.Prelude.{◌==◌, ◌&&◌, nat_le, nat_lt, cond, if◌then◌else◌, slice_index, Option, Some, None}
use Rattle.std.specs.Prelude.{option_and_then, drop}
use Rattle.std.specs.Char.{digit_value, is_ascii_digit}
use Rattle.std.specs.List.{prefix_len}
use Rattle.std.proofs.Math.Seq.{drop-append_seam}
use Rattle.std.specs.Float.Numeral.{IsWellFormed, Parts, scan_numeral}
use Rattle.std.specs.Fmt.{sign_text}
use Rattle.std.specs.Str.Parse.{AllDigits, IsNumeral, digits_value, digits_value_after, starts_with_minus}
use Rattle.json.specs.Print.{IsNumber}
use Rattle.json.specs.Word.{after_digits, after_exponent, after_fraction, after_number, after_whole}
use Rattle.mp4_shown.specs.Decimal.{Decimal, decimal_in, decimal_of, few_digits, few_places, fixed_bits, is_only}
use Rattle.mp4_shown.specs.Decimal.{nearest}
use Rattle.mp4_shown.specs.Decimal.{unsigned_part, with_places}
use Rattle.mp4_shown_json.specs.Fixed.{fraction, fixed_text, one_of}

-- ---- the digits after the point

below_ten : (part one : ℕ) → part < one → part * 10 / one < 10
below_ten part one below =
    (div-lt_iff_lt-mul {k = one} {x = part * 10} {y = 10} (omega (arith, below))).1 (omega (arith, below))

-- the digits after the next one
abbrev others : Bool → ℕ → ℕ → ℕ → List ℕ
others ends k part one = if ends then [] else fraction k part one

others_digits : (b : Bool) (k part one : ℕ) → AllDigits 10 (fraction k part one) → AllDigits 10 (others b k part one)
others_digits true k part one all = tt
others_digits false k part one all = all

all_digits : (k part one : ℕ) → part < one → AllDigits 10 (fraction k part one)
unfolding fraction
all_digits zero part one below = tt
all_digits (suc k) part one below =
    let digit = below_ten part one below in
    let all = all_digits k (part * 10 % one) one (mod-lt (part * 10) {m = one} (omega (arith, below))) in
    tells_digits.more (48 + part * 10 / one) _ (omega (arith, digit), omega (arith, digit))
    (others_digits (part * 10 % one == 0) k (part * 10 % one) one all)

some_digits : (k part one : ℕ) → 0 < length (fraction (suc k) part one)
unfolding fraction
some_digits k part one = omega arith

others_short : (b : Bool) (k part one : ℕ) → length (fraction k part one) ≤ k → length (others b k part one) ≤ k
others_short true k part one few = omega arith
others_short false k part one few = few

-- there are at most k
few_digits_after : (k part one : ℕ) → length (fraction k part one) ≤ k
unfolding fraction
few_digits_after zero part one = omega arith
few_digits_after (suc k) part one =
    let few = others_short (part * 10 % one == 0) k (part * 10 % one) one (few_digits_after k (part * 10 % one) one) in
    omega (arith, few)

-- ---- the number that they make

digits_more : (n : ℕ) (ds : List ℕ) → digits_value_after 10 n ds ≡ n * 10 ^ length ds + digits_value 10 ds
digits_more n [] = omega arith
digits_more n (c ∷ cs) =
    let a = digits_more (n * 10 + digit_value c) cs in
    let b = digits_more (0 * 10 + digit_value c) cs in
    omega (arith, a, b, ap (λ (x : ℕ). n * x) (pow-suc 10 (length cs)))

digits_joined : (n : ℕ) (ds es : List ℕ)
    → digits_value_after 10 n (ds ++ es) ≡ digits_value_after 10 (digits_value_after 10 n ds) es
digits_joined n [] es = refl
digits_joined n (d ∷ ds) es = digits_joined (n * 10 + digit_value d) ds es

digit_is : (d : ℕ) → d < 10 → digit_value (48 + d) ≡ d
digit_is d below =
    let is = digit_value_digit (48 + d) (omega (arith, below), omega (arith, below)) in omega (arith, is)

digits_first : (d : ℕ) (ds : List ℕ) → d < 10 → digits_value 10 ((48 + d) ∷ ds)
    ≡ d * 10 ^ length ds + digits_value 10 ds
digits_first d ds below =
    let first : 0 * 10 + digit_value (48 + d) ≡ d = omega (arith, digit_is d below) in
    digits_more (0 * 10 + digit_value (48 + d)) ds ∙ ap (λ (v : ℕ). v * 10 ^ length ds + digits_value 10 ds) first

-- k digits after the point are enough
abbrev Ends : ℕ → ℕ → ℕ → Type 0
Ends k part one = (q : ℕ) × (part * 10 ^ k ≡ q * one)

ends_by : (q part one : ℕ) → part < one → part * 10 ^ 0 ≡ q * one → part ≡ 0
ends_by zero part one below is = omega (arith, is)
ends_by (suc q) part one below is = absurd (omega (arith, is, below))

-- a difference of multiples is one
rest_multiple : (a q r one : ℕ) → 0 < one → a * one + r ≡ q * one → (p : ℕ) × (r ≡ p * one)
rest_multiple zero q r one some is = (q, omega (arith, is))
rest_multiple (suc a) zero r one some is = absurd (omega (arith, is, some))
rest_multiple (suc a) (suc q) r one some is = rest_multiple a q r one some (omega (arith, is))

ends_next : (k part one : ℕ) → 0 < one → Ends (suc k) part one → Ends k (part * 10 % one) one
ends_next k part one some ends =
    let d : ℕ = part * 10 / one in
    let r : ℕ = part * 10 % one in
    let whole : d * one + r ≡ part * 10 = div-add-mod' (part * 10) one in
    let scaled : (d * one + r) * 10 ^ k ≡ part * 10 * 10 ^ k = ap (λ (x : ℕ). x * 10 ^ k) whole in
    let power : part * 10 ^ suc k ≡ part * (10 ^ k * 10) = ap (λ (x : ℕ). part * x) (pow-suc 10 k) in
    rest_multiple (d * 10 ^ k) ends.0 (r * 10 ^ k) one some (omega (arith, scaled, power, ends.1))

others_value : (b : Bool) (k d r one : ℕ) → (r == 0) ≡ b → d < 10
    → digits_value 10 (fraction k r one) * one ≡ r * 10 ^ length (fraction k r one)
    → digits_value 10 ((48 + d) ∷ others b k r one) * one ≡ (d * one + r) * 10 ^ length (others b k r one)
others_value true k d r one is below same =
    ap (λ (v : ℕ). v * one) (digits_first d [] below) ∙ omega (arith, eqb-true r 0 is)
others_value false k d r one is below same =
    let ds : List ℕ = fraction k r one in
    ap (λ (v : ℕ). v * one) (digits_first d ds below) ∙ omega (arith, same)

fraction_value : (k part one : ℕ) → 0 < one → part < one → Ends k part one
    → digits_value 10 (fraction k part one) * one ≡ part * 10 ^ length (fraction k part one)
unfolding fraction
fraction_value zero part one some below ends = omega (arith, ends_by ends.0 part one below ends.1)
fraction_value (suc k) part one some below ends =
    let d : ℕ = part * 10 / one in
    let r : ℕ = part * 10 % one in
    let whole : d * one + r ≡ part * 10 = div-add-mod' (part * 10) one in
    let inner = fraction_value k r one some (mod-lt (part * 10) {m = one} some) (ends_next k part one some ends) in
    let ds : List ℕ = others (r == 0) k r one in
    others_value (r == 0) k d r one refl (below_ten part one below) inner
    ∙ ap (λ (x : ℕ). x * 10 ^ length ds) whole
    ∙ omega (arith, ap (λ (x : ℕ). part * x) (pow-suc 10 (length ds)))

-- ---- the parts of the decimal

-- the parts of a number with digits after the point
abbrev parts : List ℕ → List ℕ → Parts
parts whole digits = record {
  whole = whole;
  point = true;
  fraction = digits;
  exponent_negative = false;
  exponent = [];
  len = length (whole ++ ((46 ∷ digits) ++ []));
}

are_well_formed : (whole digits : List ℕ) → AllDigits 10 whole → AllDigits 10 digits → IsWellFormed (parts whole digits)
are_well_formed whole digits a b = record {
  whole_digits = a;
  fraction_digits = b;
  exponent_digits = tt;
  no_point = λ e. absurd cc;
  no_exponent = λ e. refl;
  len_is = refl;
}

-- a decimal has no 0 before another digit
no_leading_zero : (n : ℕ) → n < 2 ^ 64 → slice_index (decimal n) 0 ≡ 48 → length (decimal n) ≡ 1
no_leading_zero zero small is = ap length (decimal_digit 0 (omega arith))
no_leading_zero (suc n) small is = absurd (omega (arith, is, first_decimal (suc n) (omega arith) small))

-- ---- a number of JSON

digit_passes : (d : ℕ) → (48 ≤ d) × (d ≤ 57) → is_ascii_digit d ≡ true
digit_passes d range = ap (λ (b : Bool). b && nat_le d 57) (le-leb 48 d range.0) ∙ le-leb d 57 range.1

-- digits, and what stands after them
digits_first_of : (ds rest : List ℕ) → AllDigits 10 ds → prefix_len is_ascii_digit rest ≡ 0
    → prefix_len is_ascii_digit (ds ++ rest) ≡ length ds
digits_first_of [] rest all none = none
digits_first_of (d ∷ ds) rest all none =
    let parts = tells_digits.parts d ds all in
    let more = digits_first_of ds rest parts.1 none in
    ap (λ (b : Bool). cond b (1 + prefix_len is_ascii_digit (ds ++ rest)) 0) (digit_passes d parts.0)
    ∙ omega (arith, more)

after_all_digits : (ds rest : List ℕ) → AllDigits 10 ds → 0 < length ds → prefix_len is_ascii_digit rest ≡ 0
    → after_digits (ds ++ rest) ≡ Some rest
after_all_digits ds rest all some none =
    ap (λ (n : ℕ). cond (n == 0) None (Some (drop n (ds ++ rest)))) (digits_first_of ds rest all none)
    ∙ ap (λ (b : Bool). cond b None (Some (drop (length ds) (ds ++ rest))))
    (ne_eqb (length ds) 0 (λ e. omega (arith, e, some)))
    ∙ ap (λ (xs : List ℕ). Some xs) (drop-append_seam ds rest)

lone_zero : (ds rest : List ℕ) → length ds ≡ 0 → ds ++ rest ≡ rest
lone_zero [] rest none = refl
lone_zero (d ∷ ds) rest none = absurd (omega (arith, none))

whole_by : (b : Bool) (d : ℕ) (ds rest : List ℕ) → (b ≡ true → length ds ≡ 0)
    → after_digits (d ∷ (ds ++ rest)) ≡ Some rest → cond b (Some (ds ++ rest)) (after_digits (d ∷ (ds ++ rest)))
    ≡ Some rest
whole_by true d ds rest alone all = ap (λ (xs : List ℕ). Some xs) (lone_zero ds rest (alone refl))
whole_by false d ds rest alone all = all

-- a whole part with no 0 before another digit, a point, and digits
number_by : (whole digits : List ℕ) → IsNumeral 10 whole → (slice_index whole 0 ≡ 48 → length whole ≡ 1)
    → AllDigits 10 digits → 0 < length digits
    → (after_number (whole ++ (46 ∷ digits)) ≡ Some []) × (after_number (45 ∷ (whole ++ (46 ∷ digits))) ≡ Some [])
unfolding after_number
number_by [] digits numeral alone all some = absurd (omega (arith, numeral.0))
number_by (d ∷ ds) digits numeral alone all some =
    let rest : List ℕ = 46 ∷ digits in
    let parts = tells_digits.parts d ds numeral.1 in
    let one : (d == 48) ≡ true → length ds ≡ 0 = λ e. omega (arith, alone (eqb-true d 48 e)) in
    let front : after_whole (d ∷ (ds ++ rest)) ≡ Some rest =
    whole_by (d == 48) d ds rest one (after_all_digits (d ∷ ds) rest numeral.1 numeral.0 refl) in
    let end : after_digits digits ≡ Some [] =
    ap after_digits (sym (append-nil digits)) ∙ after_all_digits digits [] all some refl in
    let body : option_and_then after_exponent (option_and_then after_fraction (after_whole (d ∷ (ds ++ rest))))
    ≡ Some [] =
    ap (λ (o : Option (List ℕ)). option_and_then after_exponent (option_and_then after_fraction o)) front
    ∙ ap (option_and_then after_exponent) end in (
      ap (λ (b : Bool). option_and_then after_exponent (option_and_then after_fraction
          (after_whole (cond b (ds ++ rest) (d ∷ (ds ++ rest))))))
          (ne_eqb d 45 (λ e. omega (arith, e, parts.0.0)))
          ∙ body,
      body,
    )

signed_number : (negative : Bool) (body : List ℕ) → (after_number body ≡ Some []) × (after_number (45 ∷ body) ≡ Some [])
    → IsNumber (sign_text negative ++ body)
signed_number true body both = both.1
signed_number false body both = both.0

pub fixed_is_number : (negative : Bool) (n bits : ℕ) → n < 2 ^ 64 → IsNumber (fixed_text negative n bits)
fixed_is_number negative n bits small =
    let one = one_of bits in
    let digits = fraction (suc (min bits 30)) (n % one) one in
    let whole : n / one < 2 ^ 64 = omega (arith, small, div-le_self n one) in
    let below : n % one < one = mod-lt n {m = one} (pow_pos (min bits 30)) in
    signed_number negative (decimal (n / one) ++ (46 ∷ digits))
    (number_by (decimal (n / one)) digits (decimal_is_IsNumeral (n / one) whole).0 (no_leading_zero (n / one) whole)
    (all_digits (suc (min bits 30)) (n % one) one below) (some_digits (min bits 30) (n % one) one))

-- ---- the decimal that a text is

pub no_minus : (ds rest : List ℕ) → IsNumeral 10 ds → starts_with_minus (ds ++ rest) ≡ false
no_minus [] rest numeral = absurd (omega (arith, numeral.0))
no_minus (c ∷ cs) rest numeral = ne_eqb c 45 (λ e. omega (arith, e, (tells_digits.parts c cs numeral.1).0))

minus_is : (negative : Bool) (body : List ℕ) → starts_with_minus body ≡ false
    → starts_with_minus (sign_text negative ++ body) ≡ negative
minus_is true body plain = refl
minus_is false body plain = plain

unsigned_is : (negative : Bool) (body : List ℕ) → starts_with_minus body ≡ false
    → unsigned_part (sign_text negative ++ body) ≡ body
unsigned_is true body plain = refl
unsigned_is false body plain = ap (λ (b : Bool). if b then drop 1 body else body) plain

-- a number with digits on both sides of the point
module _ (negative : Bool) (whole digits : List ℕ) (numeral : IsNumeral 10 whole) (all : AllDigits 10 digits)
    (few : length digits ≤ 37) (small : digits_value 10 (whole ++ digits) * 10 ^ 0 < 10 ^ 37) where
  body : List ℕ
  body = whole ++ (46 ∷ digits)

  scanned : scan_numeral (whole ++ (46 ∷ digits)) ≡ parts whole digits
  scanned =
      ap (λ (ds : List ℕ). scan_numeral (whole ++ ds)) (sym (append-nil (46 ∷ digits)))
      ∙ scan_numeral-text_of (parts whole digits) (are_well_formed whole digits numeral.1 all)

  whole_text : is_only (whole ++ (46 ∷ digits)) (parts whole digits) ≡ true
  whole_text =
      let same : length (whole ++ ((46 ∷ digits) ++ [])) ≡ length (whole ++ (46 ∷ digits)) =
      ap (λ (ds : List ℕ). length (whole ++ ds)) (append-nil (46 ∷ digits)) in
      ap (λ (b : Bool). b && nat_lt 0 (length whole + length digits)) (eq-eqb _ _ same)
      ∙ lt-ltb 0 (length whole + length digits) (omega (arith, numeral.0))

  decimal_by : decimal_of negative (whole ++ (46 ∷ digits)) (parts whole digits)
      ≡ Some (negative, (digits_value 10 (whole ++ digits) * 10 ^ 0, length digits + 0))
  decimal_by =
      let v : ℕ = digits_value 10 (whole ++ digits) * 10 ^ 0 in
      ap (λ (b : Bool). if b then with_places negative (few_digits v) (few_places (length digits + 0)) else None)
      whole_text
      ∙ ap (λ (b : Bool). with_places negative (if b then Some v else None) (few_places (length digits + 0)))
      (lt-ltb v (10 ^ 37) small)
      ∙ ap (λ (b : Bool). with_places negative (Some v) (if b then Some (length digits + 0) else None))
      (le-leb (length digits + 0) 37 (omega (arith, few)))

  decimal_again : decimal_in (sign_text negative ++ (whole ++ (46 ∷ digits)))
      ≡ Some (negative, (digits_value 10 (whole ++ digits) * 10 ^ 0, length digits + 0))
  decimal_again =
      let plain = no_minus whole (46 ∷ digits) numeral in
      ap (λ (b : Bool). decimal_of b (unsigned_part (sign_text negative ++ (whole ++ (46 ∷ digits))))
      (scan_numeral (unsigned_part (sign_text negative ++ (whole ++ (46 ∷ digits))))))
      (minus_is negative (whole ++ (46 ∷ digits)) plain)
      ∙ ap (λ (s : List ℕ). decimal_of negative s (scan_numeral s))
      (unsigned_is negative (whole ++ (46 ∷ digits)) plain)
      ∙ ap (decimal_of negative (whole ++ (46 ∷ digits))) scanned
      ∙ decimal_by

-- ---- a fixed-point number

-- the text of n of `bits` bits after the point has few enough digits to be read
abbrev pub IsShort : ℕ → ℕ → Type 0
IsShort n bits = (n < 2 ^ 56) × (n * 5 ^ min bits 30 * 10 < 10 ^ 37)

some_ten : (k : ℕ) → 0 < 10 ^ k
some_ten k = omega (arith, pow-le-pow_right {n = 10} (omega arith) {i = 0} {j = k} (omega arith))

nearest_is : (n t : ℕ) → 0 < t → nearest (n * t) t ≡ n
nearest_is n t some =
    div-eq_of_lt-le {k = n} (2 * t) {m = 2 * (n * t) + t} (omega arith) (omega (arith, some))

module _ (n b : ℕ) (short : n * 5 ^ b * 10 < 10 ^ 37) where
  abbrev one_b : ℕ
  one_b = 2 ^ b

  abbrev digits_b : List ℕ
  digits_b = fraction (suc b) (n % 2 ^ b) (2 ^ b)

  tens : 10 ^ suc b ≡ 5 ^ b * 2 ^ b * 10
  tens = pow-suc 10 b ∙ ap (λ (x : ℕ). x * 10) (mul-pow 5 2 b)

  enough : Ends (suc b) (n % 2 ^ b) (2 ^ b)
  enough = (
    n % 2 ^ b * 5 ^ b * 10,
    ap (λ (x : ℕ). n % 2 ^ b * x) tens ∙ omega arith,
  )

  -- the digits on both sides of the point as one number
  both_value : digits_value 10 (decimal (n / 2 ^ b)) ≡ n / 2 ^ b
      → digits_value 10 (decimal (n / 2 ^ b) ++ digits_b) * 2 ^ b ≡ n * 10 ^ length digits_b
  both_value is =
      let one : ℕ = 2 ^ b in
      let ds : List ℕ = digits_b in
      let w : ℕ = n / one in
      let part : ℕ = n % one in
      let value = fraction_value (suc b) part one (pow_pos b) (mod-lt n {m = one} (pow_pos b)) enough in
      let joined : digits_value 10 (decimal w ++ ds) ≡ w * 10 ^ length ds + digits_value 10 ds =
      digits_joined 0 (decimal w) ds ∙ digits_more (digits_value 10 (decimal w)) ds
      ∙ ap (λ (x : ℕ). x * 10 ^ length ds + digits_value 10 ds) is in
      let sum : w * one + part ≡ n = div-add-mod' n one in
      ap (λ (x : ℕ). x * one) joined
      ∙ omega (arith, value, ap (λ (x : ℕ). x * 10 ^ length ds) sum)

  few_b : length digits_b ≤ suc b
  few_b = few_digits_after (suc b) (n % 2 ^ b) (2 ^ b)

  both_small : (v : ℕ) → v * 2 ^ b ≡ n * 10 ^ length digits_b → v < 10 ^ 37
  both_small v is =
      let more : 10 ^ length digits_b ≤ 10 ^ suc b =
      pow-le-pow_right {n = 10} (omega arith) {i = length digits_b} {j = suc b} few_b in
      let scaled : n * 10 ^ length digits_b ≤ n * 10 ^ suc b = mul-le n (10 ^ length digits_b) n (10 ^ suc b)
      (omega arith) more in
      let factors : n * 10 ^ suc b ≡ n * (5 ^ b * 2 ^ b * 10) = ap (λ (x : ℕ). n * x) tens in
      let below : v * 2 ^ b ≤ n * 5 ^ b * 10 * 2 ^ b = omega (arith, is, scaled, factors) in
      let less : v ≤ n * 5 ^ b * 10 = cancelled v (n * 5 ^ b * 10) (2 ^ b) (pow_pos b) below in
      omega (arith, less, short)
    where
      cancelled : (x y k : ℕ) → 0 < k → x * k ≤ y * k → x ≤ y
      cancelled x y k some le =
          let whole : y * k / k ≡ y = mul-div_cancel y {n = k} some in
          let less = le-div x (y * k) k some le in omega (arith, whole, less)

-- a number is read back from its text
pub fixed_again : (negative : Bool) (n bits : ℕ) → IsShort n bits
    → (d : Decimal) × (decimal_in (fixed_text negative n bits) ≡ Some d) × (d.0 ≡ negative) × (fixed_bits bits d ≡ n)
fixed_again negative n bits short =
    let b : ℕ = min bits 30 in
    let w : ℕ = n / 2 ^ b in
    let ds : List ℕ = fraction (suc b) (n % 2 ^ b) (2 ^ b) in
    let numeral = decimal_is_IsNumeral w (omega (arith, short.0, div-le_self n (2 ^ b))) in
    let value = both_value n b short.1 numeral.1 in
    let v : ℕ = digits_value 10 (decimal w ++ ds) * 10 ^ 0 in
    let same : v * 2 ^ b ≡ n * 10 ^ length ds = omega (arith, value) in
    let place : length ds + 0 ≡ length ds = omega arith in (
      (negative, (v, length ds + 0)),
      decimal_again negative (decimal w) ds numeral.0
          (all_digits (suc b) (n % 2 ^ b) (2 ^ b) (mod-lt n {m = 2 ^ b} (pow_pos b)))
          (omega (arith, few_b n b short.1)) (both_small n b short.1 v same),
      refl,
      ap₂ (λ (x k : ℕ). nearest x (10 ^ k)) same place
          ∙ nearest_is n (10 ^ length ds) (omega (arith, some_ten (length ds))),
    )
