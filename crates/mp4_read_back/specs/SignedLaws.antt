-- Signed numbers come back.
use Rattle.std.proofs.Common.{◌≡◌, ℕ, ℤ, pos, negsuc, suc, ◌-◌, ◌<◌, ◌≤◌, ◌^◌, Bool, true, false, ◌&&◌, List, []}
use Rattle.std.proofs.Common.{◌∷◌, None, Ok, Some, Option, Result, arith, append-nil, refl, sym, ap, ap₂, ◌∙◌, decimal}
use Rattle.std.proofs.Common.{drop, get_or}
use Rattle.std.specs.Prelude.{◌==◌, cond, if◌then◌else◌, int_le, neg_ℤ, unsigned_abs, FitsSigned}
use Rattle.std.specs.Fmt.{signed_decimal}
use Rattle.std.specs.Int.{Width, w8, w16, w32, w64}
use Rattle.std.specs.Str.Parse.{IsNumeral, digits_value, starts_with_minus, without_leading_plus}
use Rattle.std.proofs.lemmas.Bool.{le-leb, lt-ltb}
use Rattle.std.proofs.lemmas.Fmt.{decimal_is_IsNumeral}
use Rattle.std.proofs.lemmas.Str.Parse.{digit_at, without_leading_plus_none}
use Rattle.std.proofs.Math.Nat.{pow-le-pow_right, pow-suc}
use Rattle.json.specs.Json.{Json, Members, member}
use Rattle.json.specs.Json as json
use Rattle.json.specs.Tree.{HasNumbers, MembersHaveNumbers, members_depth}
use Rattle.json.proofs.Printed.Decimals.{IsNumber-signed_decimal}
use Rattle.mp4_declared.specs.declared.context.Context.{Context}
use Rattle.mp4_shown.specs.Numbers.{NumberName, signed_as}
use Rattle.mp4_shown.specs.Object.{first_of, take_one}
use Rattle.mp4_shown.specs.TakenNumbers.{at_path}
use Rattle.mp4_shown.specs.TakenValues.{fits_signed, is_numeral, or_else, signed_by, signed_in}
use Rattle.mp4_shown.specs.Taking.{Taking, expect, ◌>>=◌}
use Rattle.mp4_shown.specs.declared.number_name.NumberAs.{NumberAs}
use Rattle.mp4_shown.specs.declared.number_name.NumberAs.TheVariants as number_as
use Rattle.mp4_shown.specs.declared.taken.error.Reason.{Reason}
use Rattle.mp4_shown.specs.declared.taken.error.Reason.TheVariants as reasons
use Rattle.mp4_read_back.specs.ComesBack.{ComesBack, Part, is_other}
use Rattle.mp4_read_back.specs.Fields.{field_before, fixed_json}
use Rattle.mp4_read_back.specs.FieldLaws.{field_printed, one_again}
use Rattle.mp4_read_back.specs.FixedLaws.{fixed_is_number, no_minus}
use Rattle.mp4_read_back.specs.FixedNumbers.{short_by, signed_fixed_number}
use Rattle.mp4_read_back.specs.NumberLaws.{numeral_passes, one_apart}
use Rattle.mp4_read_back.specs.SignedParts.{is_good_signed, signed_part}

-- ---- the decimal of a number

abbrev signed_with : Bool → List ℕ → Option ℤ
signed_with b ds =
    if is_numeral ds && fits_signed b (digits_value 10 ds)
    then Some (cond b (neg_ℤ (pos (digits_value 10 ds))) (pos (digits_value 10 ds))) else None

with_digits : (b : Bool) (ds : List ℕ) (n : ℕ) → IsNumeral 10 ds → digits_value 10 ds ≡ n → fits_signed b n ≡ true
    → signed_with b ds ≡ Some (cond b (neg_ℤ (pos n)) (pos n))
with_digits b ds n numeral is fits =
    ap (λ (k : ℕ). if is_numeral ds && fits_signed b k then Some (cond b (neg_ℤ (pos k)) (pos k)) else None) is
    ∙ ap (λ (t : Bool). if t && fits_signed b n then Some (cond b (neg_ℤ (pos n)) (pos n)) else None)
    (numeral_passes ds numeral)
    ∙ ap (λ (t : Bool). if t then Some (cond b (neg_ℤ (pos n)) (pos n)) else None) fits

-- a number of this many bits besides its sign
abbrev pub IsBelow : ℕ → ℤ → Type 0
IsBelow h (pos n) = n < 2 ^ h
IsBelow h (negsuc n) = n < 2 ^ h

abbrev pub IsSmall : ℤ → Type 0
IsSmall z = IsBelow 63 z

pub signed_of_decimal : (z : ℤ) → IsSmall z → signed_in (json.number (signed_decimal z)) ≡ Some z
signed_of_decimal (pos n) small =
    let numeral = decimal_is_IsNumeral n (omega (arith, small)) in
    let ds : List ℕ = decimal n in
    let plain : starts_with_minus ds ≡ false = ap starts_with_minus (sym (append-nil ds)) ∙ no_minus ds [] numeral.0 in
    ap (λ (b : Bool). signed_with b (cond b (drop 1 ds) (without_leading_plus ds))) plain
    ∙ ap (signed_with false) (no_plus ds numeral.0)
    ∙ with_digits false ds n numeral.0 numeral.1 (lt-ltb n (2 ^ 63) small)
  where
    no_plus : (ds : List ℕ) → IsNumeral 10 ds → without_leading_plus ds ≡ ds
    no_plus ds numeral =
        without_leading_plus_none ds
        (λ (e : get_or ds 0 0 ≡ 43). omega (arith, e, (digit_at ds 0 numeral.1 numeral.0).0))
signed_of_decimal (negsuc n) small =
    let numeral = decimal_is_IsNumeral (suc n) (omega (arith, small)) in
    with_digits true (decimal (suc n)) (suc n) numeral.0 numeral.1 (le-leb (suc n) (2 ^ 63) (omega (arith, small)))

pub whole_again : (z : ℤ) → IsSmall z
    → or_else reasons.NotWhole (λ (y : ℤ). Ok y) (signed_in (json.number (signed_decimal z))) ≡ Ok z
whole_again z small = ap (λ (o : Option ℤ). or_else reasons.NotWhole (λ (y : ℤ). Ok y) o) (signed_of_decimal z small)

pub decimal_is_number : (z : ℤ) → IsSmall z → HasNumbers (json.number (signed_decimal z))
decimal_is_number (pos n) small = IsNumber-signed_decimal (pos n) small
decimal_is_number (negsuc n) small = IsNumber-signed_decimal (negsuc n) small

-- ---- taken

abbrev in_range : List ℕ → ℤ → ℤ → Members → ℤ → Taking (ℤ × Members)
in_range name least largest rest z =
    expect (int_le least z && int_le z largest) name reasons.OutOfRange >>= λ _. Ok (z, rest)

abbrev signed_found : List ℕ → NumberAs → ℤ → ℤ → Taking (Json × Members) → Taking (ℤ × Members)
signed_found name a least largest t = t >>= λ p. at_path name (signed_by a p.0) >>= in_range name least largest p.1

-- a member that is read as this number, which is in its range
pub member_again : (name : List ℕ) (a : NumberAs) (least largest z : ℤ) (j : Json) (ms : Members) → first_of name ms
    ≡ None
    → signed_by a j ≡ Ok z → (int_le least z && int_le z largest) ≡ true
    → signed_found name a least largest (take_one name (member name j ms)) ≡ Ok (z, ms)
member_again name a least largest z j ms none is within =
    ap (signed_found name a least largest) (one_again name j ms none)
    ∙ ap (λ (r : Result ℤ Reason). at_path name r >>= in_range name least largest ms) is
    ∙ ap (λ (b : Bool). expect b name reasons.OutOfRange >>= λ _. Ok (z, ms)) within

signed_again : (name : List ℕ) (a : NumberAs) (most : ℕ) (least largest z : ℤ) (ms : Members)
    → is_good_signed most a ≡ true → IsSmall z → unsigned_abs z < 2 ^ most → first_of name ms ≡ None
    → (int_le least z && int_le z largest) ≡ true
    → signed_found name a least largest (take_one name (field_before name (signed_as a z) ms)) ≡ Ok (z, ms)
signed_again name number_as.Plain most least largest z ms good small below none within =
    member_again name number_as.Plain least largest z (json.number (signed_decimal z)) ms none
    (whole_again z small) within
signed_again name number_as.Named most least largest z ms good small below none within =
    member_again name number_as.Named least largest z (json.number (signed_decimal z)) ms none
    (whole_again z small) within
signed_again name (number_as.Flags digits) most least largest z ms good small below none within =
    member_again name (number_as.Flags digits) least largest z (json.number (signed_decimal z)) ms none
    (whole_again z small)
    within
signed_again name number_as.Date most least largest z ms good small below none within =
    member_again name number_as.Date least largest z (json.number (signed_decimal z)) ms none
    (whole_again z small) within
signed_again name (number_as.Fixed bits) most least largest z ms good small below none within =
    member_again name (number_as.Fixed bits) least largest z (fixed_json z bits) ms none
    (signed_fixed_number z bits (short_by (unsigned_abs z) most bits good below)) within
signed_again name (number_as.Hex count) most least largest z ms good small below none within =
    member_again name (number_as.Hex count) least largest z (json.number (signed_decimal z)) ms none
    (whole_again z small)
    within
signed_again name (number_as.Reserved usual) most least largest z ms good small below none within =
    member_again name (number_as.Reserved usual) least largest z (json.number (signed_decimal z)) ms none
    (whole_again z small) within

-- ---- names, numbers of JSON, and depth

signed_apart : (name other : List ℕ) (a : NumberAs) (z : ℤ) (ms : Members) → is_other other (name ∷ []) ≡ true
    → first_of other ms ≡ None → first_of other (field_before name (signed_as a z) ms) ≡ None
signed_apart name other number_as.Plain z ms differs none = one_apart name other _ ms differs none
signed_apart name other number_as.Named z ms differs none = one_apart name other _ ms differs none
signed_apart name other (number_as.Flags digits) z ms differs none = one_apart name other _ ms differs none
signed_apart name other number_as.Date z ms differs none = one_apart name other _ ms differs none
signed_apart name other (number_as.Fixed bits) z ms differs none = one_apart name other _ ms differs none
signed_apart name other (number_as.Hex count) z ms differs none = one_apart name other _ ms differs none
signed_apart name other (number_as.Reserved usual) z ms differs none = one_apart name other _ ms differs none

abs_small : (z : ℤ) → IsSmall z → unsigned_abs z < 2 ^ 64
abs_small (pos n) small = omega (arith, small)
abs_small (negsuc n) small = omega (arith, small)

signed_numbers : (name : List ℕ) (a : NumberAs) (z : ℤ) (ms : Members) → IsSmall z → MembersHaveNumbers ms
    → MembersHaveNumbers (field_before name (signed_as a z) ms)
signed_numbers name number_as.Plain z ms small have = (decimal_is_number z small, have)
signed_numbers name number_as.Named z ms small have = (decimal_is_number z small, have)
signed_numbers name (number_as.Flags digits) z ms small have = (decimal_is_number z small, have)
signed_numbers name number_as.Date z ms small have = (decimal_is_number z small, have)
signed_numbers name (number_as.Fixed bits) z ms small have =
    (fixed_is_number _ (unsigned_abs z) bits (abs_small z small), have)
signed_numbers name (number_as.Hex count) z ms small have = (decimal_is_number z small, have)
signed_numbers name (number_as.Reserved usual) z ms small have = (decimal_is_number z small, have)

signed_shallow : (name : List ℕ) (a : NumberAs) (z : ℤ) (ms : Members) (d : ℕ) → members_depth ms ≤ d
    → members_depth (field_before name (signed_as a z) ms) ≤ d
signed_shallow name number_as.Plain z ms d rest = omega (arith, rest)
signed_shallow name number_as.Named z ms d rest = omega (arith, rest)
signed_shallow name (number_as.Flags digits) z ms d rest = omega (arith, rest)
signed_shallow name number_as.Date z ms d rest = omega (arith, rest)
signed_shallow name (number_as.Fixed bits) z ms d rest = omega (arith, rest)
signed_shallow name (number_as.Hex count) z ms d rest = omega (arith, rest)
signed_shallow name (number_as.Reserved usual) z ms d rest = omega (arith, rest)

-- ---- all of it

-- a number of a width is within the range of that width
pub is_within : (h : ℕ) (z : ℤ) → IsBelow h z → (int_le (negsuc (2 ^ h - 1)) z && int_le z (pos (2 ^ h - 1))) ≡ true
is_within h (pos n) below = le-leb n (2 ^ h - 1) (omega (arith, below))
is_within h (negsuc n) below = ap (λ (b : Bool). b && true) (le-leb n (2 ^ h - 1) (omega (arith, below)))

more_bits : (a b : ℕ) → a ≤ b → 2 ^ a ≤ 2 ^ b
more_bits a b le = pow-le-pow_right {n = 2} (omega arith) {i = a} {j = b} le

pub still_below : (h : ℕ) (z : ℤ) → h ≤ 63 → IsBelow h z → IsSmall z
still_below h (pos n) few below = omega (arith, below, more_bits h 63 few)
still_below h (negsuc n) few below = omega (arith, below, more_bits h 63 few)

abs_below : (h most : ℕ) (z : ℤ) → h < most → IsBelow h z → unsigned_abs z < 2 ^ most
abs_below h most (pos n) few below = omega (arith, below, more_bits h most (omega (arith, few)))
abs_below h most (negsuc n) few below = omega (arith, below, more_bits (suc h) most few, pow-suc 2 h)

-- `bits` bits besides the sign, which are at most 63, and fewer than `most`
pub record IsWidth (width : Context → Width) (least largest : Context → ℤ) (bits : Context → ℕ)
    (most : ℕ) : Type 0 where
  pub below : (c : Context) (z : ℤ) → FitsSigned (width c) z → IsBelow (bits c) z
  pub is_least : (c : Context) → least c ≡ negsuc (2 ^ bits c - 1)
  pub is_largest : (c : Context) → largest c ≡ pos (2 ^ bits c - 1)
  pub few : (c : Context) → bits c ≤ 63
  pub fewer : (c : Context) → bits c < most

pub signed_comes : (width : Context → Width) (least largest : Context → ℤ) (bits : Context → ℕ) (most : ℕ)
    → IsWidth width least largest bits most → ComesBack (signed_part width least largest most)
signed_comes width least largest bits most is = record {
  printed = λ f c z ms good fits. field_printed f.0.now (signed_as f.1 z) ms;
  back = λ f c z ms good fits free.
      let below = is.below c z fits in
      let within : (int_le (least c) z && int_le z (largest c)) ≡ true =
      ap₂ (λ (a b : ℤ). int_le a z && int_le z b) (is.is_least c) (is.is_largest c) ∙ is_within (bits c) z below in
      signed_again f.0.now f.1 most (least c) (largest c) z ms good (still_below (bits c) z (is.few c) below)
      (abs_below (bits c) most z (is.fewer c) below) free.0 within;
  apart = λ f z ms other differs none. signed_apart f.0.now other f.1 z ms differs none;
  numbers = λ f c z ms good fits have.
      signed_numbers f.0.now f.1 z ms (still_below (bits c) z (is.few c) (is.below c z fits)) have;
  shallow = λ f z ms d deep rest. signed_shallow f.0.now f.1 z ms d rest;
}

-- ---- the widths

below8 : (z : ℤ) → FitsSigned w8 z → IsBelow 7 z
below8 (pos n) fits = fits.sfits
below8 (negsuc n) fits = fits.sfits

pub below16 : (z : ℤ) → FitsSigned w16 z → IsBelow 15 z
below16 (pos n) fits = fits.sfits
below16 (negsuc n) fits = fits.sfits

pub below32 : (z : ℤ) → FitsSigned w32 z → IsBelow 31 z
below32 (pos n) fits = fits.sfits
below32 (negsuc n) fits = fits.sfits

pub below64 : (z : ℤ) → FitsSigned w64 z → IsBelow 63 z
below64 (pos n) fits = fits.sfits
below64 (negsuc n) fits = fits.sfits

abbrev pub i8_part : Part NumberName ℤ
i8_part = signed_part (λ c. w8) (λ c. negsuc (2 ^ 7 - 1)) (λ c. pos (2 ^ 7 - 1)) 8

pub i8_comes : ComesBack i8_part
i8_comes = signed_comes (λ c. w8) (λ c. negsuc (2 ^ 7 - 1)) (λ c. pos (2 ^ 7 - 1)) (λ c. 7) 8 (record {
  below = λ c z fits. below8 z fits;
  is_least = λ c. refl;
  is_largest = λ c. refl;
  few = λ c. omega arith;
  fewer = λ c. omega arith;
})

abbrev pub i16_part : Part NumberName ℤ
i16_part = signed_part (λ c. w16) (λ c. negsuc (2 ^ 15 - 1)) (λ c. pos (2 ^ 15 - 1)) 16

pub i16_comes : ComesBack i16_part
i16_comes = signed_comes (λ c. w16) (λ c. negsuc (2 ^ 15 - 1)) (λ c. pos (2 ^ 15 - 1)) (λ c. 15) 16 (record {
  below = λ c z fits. below16 z fits;
  is_least = λ c. refl;
  is_largest = λ c. refl;
  few = λ c. omega arith;
  fewer = λ c. omega arith;
})

abbrev pub i32_part : Part NumberName ℤ
i32_part = signed_part (λ c. w32) (λ c. negsuc (2 ^ 31 - 1)) (λ c. pos (2 ^ 31 - 1)) 32

pub i32_comes : ComesBack i32_part
i32_comes = signed_comes (λ c. w32) (λ c. negsuc (2 ^ 31 - 1)) (λ c. pos (2 ^ 31 - 1)) (λ c. 31) 32 (record {
  below = λ c z fits. below32 z fits;
  is_least = λ c. refl;
  is_largest = λ c. refl;
  few = λ c. omega arith;
  fewer = λ c. omega arith;
})

-- a signed time has 32 bits in version 0, and 64 in later ones
abbrev pub signed_time_part : Part NumberName ℤ
signed_time_part = signed_part (λ c. if c.version == 0 then w32 else w64)
    (λ c. if c.version == 0 then negsuc (2 ^ 31 - 1) else negsuc (2 ^ 63 - 1))
    (λ c. if c.version == 0 then pos (2 ^ 31 - 1) else pos (2 ^ 63 - 1)) 64

time_below : (b : Bool) (z : ℤ) → FitsSigned (if b then w32 else w64) z → IsBelow (if b then 31 else 63) z
time_below true z fits = below32 z fits
time_below false z fits = below64 z fits

time_least : (b : Bool)
    → (if b then negsuc (2 ^ 31 - 1) else negsuc (2 ^ 63 - 1)) ≡ negsuc (2 ^ (if b then 31 else 63) - 1)
time_least true = refl
time_least false = refl

time_largest : (b : Bool) → (if b then pos (2 ^ 31 - 1) else pos (2 ^ 63 - 1)) ≡ pos (2 ^ (if b then 31 else 63) - 1)
time_largest true = refl
time_largest false = refl

time_few : (b : Bool) → (if b then 31 else 63) ≤ 63
time_few true = omega arith
time_few false = omega arith

pub signed_time_comes : ComesBack signed_time_part
signed_time_comes = signed_comes (λ c. if c.version == 0 then w32 else w64)
    (λ c. if c.version == 0 then negsuc (2 ^ 31 - 1) else negsuc (2 ^ 63 - 1))
    (λ c. if c.version == 0 then pos (2 ^ 31 - 1) else pos (2 ^ 63 - 1)) (λ c. if c.version == 0 then 31 else 63) 64
    (record {
      below = λ c z fits. time_below (c.version == 0) z fits;
      is_least = λ c. time_least (c.version == 0);
      is_largest = λ c. time_largest (c.version == 0);
      few = λ c. time_few (c.version == 0);
      fewer = λ c. let few = time_few (c.version == 0) in omega (arith, few);
    })
