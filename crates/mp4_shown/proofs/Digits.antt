-- Whole numbers by their digits.
use Rattle.std.proofs.Common.{◌≡◌, ℕ, ℤ, pos, zero, suc, ◌<◌, ◌≤◌, ◌^◌, Bool, true, false, List, length}
use Rattle.std.proofs.Common.{refl, sym, ap, ◌∙◌, arith, w64, SFits}
use Rattle.std.proofs.lemmas.Bool.{le-leb, leb-true, lt-ltb, ltb-true}
use Rattle.std.proofs.lemmas.Str.Parse.{numerals_by_value, tells_all_ascii_digits}
use Rattle.std.specs.Prelude.{Option, Some, None, ◌==◌, ◌&&◌, not, nat_lt, neg_ℤ, if◌then◌else◌, cond}
use Rattle.std.specs.Prelude.{option_and_then, MatchOption, ok_or}
use Rattle.std.specs.Str.{all_ascii_digits}
use Rattle.std.specs.Str.Parse.{IsNumeral, ParsesSigned, ParsesUnsigned, digits_value, without_leading_plus}
use Rattle.std.specs.Str.Parse.{signed_digits_value, starts_with_minus, without_leading_sign}
use Rattle.mp4_shown.specs.TakenValues.{fits_signed, is_numeral, number_of_digits, signed_of_digits}

some_by : (n : ℕ) → 0 < n → (n == 0) ≡ false
some_by n some = grind arith

none_by : (n : ℕ) (b : Bool) → b ≡ (n == 0) → not b ≡ true → 0 < n
none_by n true is t = absurd cc
none_by n false is t = grind arith

and_true : (a b : Bool) → (a && b) ≡ true → (a ≡ true) × (b ≡ true)
and_true true b both = (refl, both)
and_true false b both = absurd cc

-- a numeral passes its test, and nothing else does
numeral_passes : (ds : List ℕ) → IsNumeral 10 ds → is_numeral ds ≡ true
numeral_passes ds numeral =
    let digits = (numerals_by_value _ tells_all_ascii_digits).from ds numeral.1 in
    let some = some_by (length ds) numeral.0 in
    ap (λ (b : Bool). not b && all_ascii_digits ds) some ∙ digits

numeral_from : (ds : List ℕ) → is_numeral ds ≡ true → IsNumeral 10 ds
numeral_from ds passes =
    let both = and_true (not (length ds == 0)) (all_ascii_digits ds) passes in
    (none_by (length ds) (length ds == 0) refl both.0, (numerals_by_value _ tells_all_ascii_digits).to ds both.1)

-- ---- numbers without a sign

abbrev unsigned_if : List ℕ → Bool → Option ℕ
unsigned_if ds b = if b then Some (digits_value 10 ds) else None

unsigned_some : (ds : List ℕ) (n : ℕ) → (IsNumeral 10 ds × (digits_value 10 ds < 2 ^ 64)) × (n ≡ digits_value 10 ds)
    → Some n ≡ number_of_digits ds
unsigned_some ds n parsed =
    let passes = numeral_passes ds parsed.0.0 in
    let small = lt-ltb (digits_value 10 ds) (2 ^ 64) parsed.0.1 in
    ap (λ (m : ℕ). Some m) parsed.1
    ∙ sym (ap (λ (b : Bool). unsigned_if ds (b && nat_lt (digits_value 10 ds) (2 ^ 64))) passes
    ∙ ap (λ (b : Bool). unsigned_if ds b) small)

unsigned_none : (ds : List ℕ) (b c : Bool) → is_numeral ds ≡ b → nat_lt (digits_value 10 ds) (2 ^ 64) ≡ c
    → ¬ (IsNumeral 10 ds × (digits_value 10 ds < 2 ^ 64))
    → None ≡ unsigned_if ds (b && c)
unsigned_none ds true true is small never =
    absurd (never (numeral_from ds is, ltb-true (digits_value 10 ds) (2 ^ 64) small))
unsigned_none ds true false is small never = refl
unsigned_none ds false c is small never = refl

pub unsigned_is : (o : Option (List ℕ)) (r : Option ℕ)
    → MatchOption o (r ≡ None) (λ s. ParsesUnsigned 64 10 s (ok_or r s))
    → r ≡ option_and_then (λ s. number_of_digits (without_leading_plus s)) o
unsigned_is None r none = none
unsigned_is (Some s) (Some n) parsed = unsigned_some (without_leading_plus s) n parsed
unsigned_is (Some s) None parsed =
    let ds = without_leading_plus s in
    unsigned_none ds (is_numeral ds) (nat_lt (digits_value 10 ds) (2 ^ 64)) refl refl parsed

-- ---- numbers with a sign

-- a number of 63 bits, or one more if it is negative
negative_fits : (n : ℕ) → SFits w64 (neg_ℤ (pos n)) → n ≤ 2 ^ 63
negative_fits zero fits = omega arith
negative_fits (suc n) fits = let small : n < 2 ^ 63 = fits.sfits in omega (arith, small)

fits_negative : (n : ℕ) → n ≤ 2 ^ 63 → SFits w64 (neg_ℤ (pos n))
fits_negative zero le = let small : 0 < 2 ^ 63 = omega arith in record { sfits = small }
fits_negative (suc n) le = let small : n < 2 ^ 63 = omega (arith, le) in record { sfits = small }

signed_fits : (negative : Bool) (n : ℕ) → SFits w64 (cond negative (neg_ℤ (pos n)) (pos n))
    → fits_signed negative n ≡ true
signed_fits true n fits = le-leb n (2 ^ 63) (negative_fits n fits)
signed_fits false n fits = let small : n < 2 ^ 63 = fits.sfits in lt-ltb n (2 ^ 63) small

fits_from : (negative : Bool) (n : ℕ) → fits_signed negative n ≡ true
    → SFits w64 (cond negative (neg_ℤ (pos n)) (pos n))
fits_from true n fits = fits_negative n (leb-true n (2 ^ 63) fits)
fits_from false n fits = let small : n < 2 ^ 63 = ltb-true n (2 ^ 63) fits in record { sfits = small }

abbrev signed_if : List ℕ → Bool → Option ℤ
signed_if s b = if b then Some (signed_digits_value 10 s) else None

signed_some : (s : List ℕ) (z : ℤ)
    → (IsNumeral 10 (without_leading_sign s) × SFits w64 (signed_digits_value 10 s)) × (z ≡ signed_digits_value 10 s)
    → Some z ≡ signed_of_digits s
signed_some s z parsed =
    let passes = numeral_passes (without_leading_sign s) parsed.0.0 in
    let fits = signed_fits (starts_with_minus s) (digits_value 10 (without_leading_sign s)) parsed.0.1 in
    ap (λ (y : ℤ). Some y) parsed.1
    ∙ sym (ap
    (λ (b : Bool). signed_if s (b && fits_signed (starts_with_minus s) (digits_value 10 (without_leading_sign s))))
    passes ∙ ap (λ (b : Bool). signed_if s b) fits)

signed_none : (s : List ℕ) (b c : Bool) → is_numeral (without_leading_sign s) ≡ b
    → fits_signed (starts_with_minus s) (digits_value 10 (without_leading_sign s)) ≡ c
    → ¬ (IsNumeral 10 (without_leading_sign s) × SFits w64 (signed_digits_value 10 s))
    → None ≡ signed_if s (b && c)
signed_none s true true is fits never =
    absurd (never (
      numeral_from (without_leading_sign s) is,
      fits_from (starts_with_minus s) (digits_value 10 (without_leading_sign s)) fits,
    ))
signed_none s true false is fits never = refl
signed_none s false c is fits never = refl

pub signed_is : (o : Option (List ℕ)) (r : Option ℤ)
    → MatchOption o (r ≡ None) (λ s. ParsesSigned w64 10 s (ok_or r s)) → r ≡ option_and_then signed_of_digits o
signed_is None r none = none
signed_is (Some s) (Some z) parsed = signed_some s z parsed
signed_is (Some s) None parsed =
    let n = digits_value 10 (without_leading_sign s) in
    signed_none s (is_numeral (without_leading_sign s)) (fits_signed (starts_with_minus s) n) refl refl parsed
