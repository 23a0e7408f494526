-- The digits of a fraction, one by one, and the number that they make.
use Rattle.std.proofs.Common.{◌≡◌, ℕ, zero, suc, ◌+◌, ◌-◌, ◌*◌, ◌/◌, ◌%◌, ◌^◌, ◌<◌, ◌≤◌, Bool, true, false, List, []}
use Rattle.std.proofs.Common.{◌∷◌, ◌++◌}
use Rattle.std.proofs.Common.{length, min, decimal, refl, sym, subst, ap, ◌∙◌, append_assoc, append-nil, arith}
use Rattle.std.proofs.lemmas.Fmt.{decimal_is_IsNumeral, decimal_digit, first_decimal}
use Rattle.std.proofs.lemmas.Str.Parse.{tells_digits}
use Rattle.std.proofs.lemmas.Bool.{ne_eqb}
use Rattle.std.proofs.Math.Nat.{div-le_self, div-lt_iff_lt-mul, mod-lt, pow-le-pow_right}
use Rattle.std.specs.Prelude.{◌==◌, ◌≢◌, if◌then◌else◌, slice_index}
use Rattle.std.specs.Float.Numeral.{Parts}
use Rattle.std.specs.Fmt.{sign_text}
use Rattle.std.specs.Str.Parse.{AllDigits}
use Rattle.std.proofs.lemmas.Nat.{pow_pos}
use Rattle.ryu.specs.Plain.{IsPlain}
use Rattle.json.specs.Print.{IsNumber}
use Rattle.json.proofs.Printed.Floats.{IsNumber-plain}
use Rattle.mp4_shown_json.specs.Fixed.{fraction, fixed_text, one_of}

pub power_small : (bits : ℕ) → bits ≤ 30 → 2 ^ bits ≤ 2 ^ 30
power_small bits short = pow-le-pow_right {n = 2} (omega arith) {i = bits} {j = 30} short

pub power_positive : (bits : ℕ) → 0 < 2 ^ bits
power_positive bits = pow_pos bits

pub rest_below : (n one : ℕ) → 0 < one → n % one < one
rest_below n one positive = mod-lt n {m = one} positive

-- the next digit, and those after it
abbrev after_digit : Bool → ℕ → ℕ → ℕ → List ℕ
after_digit ends k part one = if ends then [] else fraction k part one

-- a digit is written
after_first : (k part one digit rest : ℕ) (out new all : List ℕ) (b : Bool) → digit ≡ part * 10 / one
    → rest ≡ part * 10 % one → (rest == 0) ≡ b → new ≡ out ++ (48 + digit) ∷ []
    → out ++ fraction (suc k) part one ≡ all → new ++ after_digit b k rest one ≡ all
unfolding fraction
after_first k part one digit rest out new all b is_digit is_rest ends put before =
    ap (λ (xs : List ℕ). xs ++ after_digit b k rest one) put
    ∙ append_assoc out ((48 + digit) ∷ []) (after_digit b k rest one)
    ∙ ap (λ (e : Bool). out ++ (48 + digit) ∷ after_digit e k rest one) (sym ends)
    ∙ ap (λ (d : ℕ). out ++ (48 + d) ∷ after_digit (rest == 0) k rest one) is_digit
    ∙ ap (λ (r : ℕ). out ++ (48 + part * 10 / one) ∷ after_digit (r == 0) k r one) is_rest
    ∙ before

-- some part is left
pub more_digits : (k part one digit rest : ℕ) (out new all : List ℕ) → 0 < k → digit ≡ part * 10 / one
    → rest ≡ part * 10 % one → rest ≢ 0 → new ≡ out ++ (48 + digit) ∷ []
    → out ++ fraction k part one ≡ all → new ++ fraction (k - 1) rest one ≡ all
more_digits zero part one digit rest out new all some is_digit is_rest left put before = absurd (omega (arith, some))
more_digits (suc k) part one digit rest out new all some is_digit is_rest left put before =
    let less : k ≡ suc k - 1 = omega arith in
    subst (λ (j : ℕ). new ++ fraction j rest one ≡ all) less
    (after_first k part one digit rest out new all false is_digit is_rest (ne_eqb rest 0 left) put before)

-- nothing is left
pub last_digit : (k part one digit rest : ℕ) (out new all : List ℕ) → 0 < k → digit ≡ part * 10 / one
    → rest ≡ part * 10 % one → rest ≡ 0 → new ≡ out ++ (48 + digit) ∷ [] → out ++ fraction k part one ≡ all
    → new ≡ all
last_digit zero part one digit rest out new all some is_digit is_rest none put before = absurd (omega (arith, some))
last_digit (suc k) part one digit rest out new all some is_digit is_rest none put before =
    sym (append-nil new)
    ∙ after_first k part one digit rest out new all true is_digit is_rest (ap (λ (r : ℕ). r == 0) none) put before

-- all digits are written
pub no_digits : (k part one : ℕ) (out all : List ℕ) → k ≤ 0 → out ++ fraction k part one ≡ all → out ≡ all
unfolding fraction
no_digits zero part one out all none before = sym (append-nil out) ∙ before
no_digits (suc k) part one out all none before = absurd (omega (arith, none))

-- ---- a number of JSON

pub below_ten : (part one : ℕ) → part < one → part * 10 / one < 10
below_ten part one below =
    (div-lt_iff_lt-mul {k = one} {x = part * 10} {y = 10} (omega (arith, below))).1 (omega (arith, below))

digits_by : (b : Bool) (k part one : ℕ) → AllDigits 10 (fraction k part one) → AllDigits 10 (after_digit b k part one)
digits_by true k part one all = tt
digits_by false k part one all = all

all_digits : (k part one : ℕ) → part < one → AllDigits 10 (fraction k part one)
unfolding fraction
all_digits zero part one below = tt
all_digits (suc k) part one below =
    let digit = below_ten part one below in
    let others = all_digits k (part * 10 % one) one (mod-lt (part * 10) {m = one} (omega (arith, below))) in
    tells_digits.more (48 + part * 10 / one) _ (omega (arith, digit), omega (arith, digit))
    (digits_by (part * 10 % one == 0) k (part * 10 % one) one others)

some_digits : (k part one : ℕ) → 0 < length (fraction (suc k) part one)
unfolding fraction
some_digits k part one = omega arith

-- a decimal has no 0 before another digit
no_leading_zero : (n : ℕ) → n < 2 ^ 64 → slice_index (decimal n) 0 ≡ 48 → length (decimal n) ≡ 1
no_leading_zero zero small is = ap length (decimal_digit 0 (omega arith))
no_leading_zero (suc n) small is = absurd (omega (arith, is, first_decimal (suc n) (omega arith) small))

-- the parts of a number with digits after the point
abbrev parts : List ℕ → List ℕ → Parts
parts whole digits = record {
  whole = whole;
  point = true;
  fraction = digits;
  exponent_negative = false;
  exponent = [];
  len = length (whole ++ ((46 ∷ digits) ++ []));
}

is_plain : (n k part one : ℕ) → n < 2 ^ 64 → part < one → IsPlain (parts (decimal n) (fraction (suc k) part one))
is_plain n k part one small below = record {
  well_formed = record {
    whole_digits = (decimal_is_IsNumeral n small).0.1;
    fraction_digits = all_digits (suc k) part one below;
    exponent_digits = tt;
    no_point = λ e. absurd cc;
    no_exponent = λ e. refl;
    len_is = refl;
  };
  whole = (decimal_is_IsNumeral n small).0.0;
  no_leading_zero = no_leading_zero n small;
  fraction = λ e. some_digits k part one;
  marked = λ e. absurd cc;
}

pub fixed_is_number : (negative : Bool) (n bits : ℕ) → n < 2 ^ 64 → IsNumber (fixed_text negative n bits)
fixed_is_number negative n bits small =
    let one = one_of bits in
    let digits = fraction (suc (min bits 30)) (n % one) one in
    let whole : n / one < 2 ^ 64 = omega (arith, small, div-le_self n one) in
    let below : n % one < one = mod-lt n {m = one} (pow_pos (min bits 30)) in
    IsNumber-plain (fixed_text negative n bits) (
      negative,
      parts (decimal (n / one)) digits,
      ap (λ (ds : List ℕ). sign_text negative ++ (decimal (n / one) ++ ds)) (sym (append-nil (46 ∷ digits))),
      is_plain (n / one) (min bits 30) (n % one) one whole below,
    )
