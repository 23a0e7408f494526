-- Splitting gives back the numbers that were joined, and the bytes of a number hold its bits.
use Rattle.std.proofs.Common.{◌≡◌, ℕ, zero, suc, ◌+◌, ◌-◌, ◌*◌, ◌/◌, ◌%◌, ◌^◌, ◌<◌, ◌≤◌, Bool, true, false, ◌&&◌, List}
use Rattle.std.proofs.Common.{[], ◌∷◌, ◌++◌, length, slice_index, refl, sym, ap, ◌∙◌, arith}
use Rattle.std.proofs.lemmas.Nat.{pow-add, mod-pow-add, div-mul-add, mod-mul-add}
use Rattle.std.proofs.Math.Nat.{div-div-eq-div-mul, mod-lt, mul-add-mod_self_right, mul-add-div_right, mul_assoc}
use Rattle.std.proofs.Math.Nat.{mul_comm, add-mul, div-one, mod-eq_of_lt, mul-le-mul_right}
use Rattle.std.proofs.Math.Pow.{pow_pos}
use Rattle.std.proofs.lemmas.Bool.{eqb-true, leb-true, ltb-true}
use Rattle.std.specs.Int.{byte_at}
use Rattle.byteorder.specs.Endian.{big_from, big_bytes}
use Rattle.mp4_frame.specs.Bytes.{number, be_bytes}
use Rattle.mp4_frame.specs.Laws.{AreBytes}
use Rattle.mp4_frame.proofs.Fields.{number-below}
use Rattle.mp4_declared.specs.Bits.{bits, bytes_in, joined, split, NumbersFit, are_whole, are_fields}

pub pow256 : (n : ℕ) → 256 ^ n ≡ 2 ^ (8 * n)
pow256 zero = refl
pow256 (suc n) =
    let a : 256 ^ suc n ≡ 256 * 256 ^ n = omega arith in
    let b : 8 * suc n ≡ 8 + 8 * n = omega arith in
    let c = pow-add 2 8 (8 * n) in
    let d : 2 ^ (8 * suc n) ≡ 2 ^ (8 + 8 * n) = ap (λ (k : ℕ). 2 ^ k) b in
    let e = pow256 n in
    rw (a, d, c, e) refl

-- ---- joining and splitting

pub joined-lt : (ws ns : List ℕ) → NumbersFit ws ns → joined ws ns < 2 ^ bits ws
joined-lt [] [] fits = omega arith
joined-lt [] (n ∷ ns) fits = absurd fits
joined-lt (w ∷ ws) [] fits = absurd fits
joined-lt (w ∷ ws) (n ∷ ns) fits =
    let rest = joined-lt ws ns fits.1 in
    let all = pow-add 2 w (bits ws) in
    let below : n + 1 ≤ 2 ^ w = let h = fits.0 in omega arith in
    let top : (n + 1) * 2 ^ bits ws ≤ 2 ^ w * 2 ^ bits ws = mul-le-mul_right (2 ^ bits ws) below in
    let apart = add-mul n 1 (2 ^ bits ws) in
    omega (arith, rest, all, top, apart)

-- Adding a multiple of 2 ^ (w + b) changes none of the w bits above the lowest b.
above : (a w b x : ℕ) → (a * 2 ^ (w + b) + x) / 2 ^ b % 2 ^ w ≡ x / 2 ^ b % 2 ^ w
above a w b x =
    let whole : a * 2 ^ (w + b) ≡ (a * 2 ^ w) * 2 ^ b = ap (λ (k : ℕ). a * k) (pow-add 2 w b)
    ∙ sym (mul_assoc a (2 ^ w) (2 ^ b)) in
    ap (λ (k : ℕ). (k + x) / 2 ^ b % 2 ^ w) whole
    ∙ ap (λ (k : ℕ). k % 2 ^ w) (mul-add-div_right (pow_pos b) (a * 2 ^ w) x)
    ∙ mul-add-mod_self_right a (2 ^ w) (x / 2 ^ b)

-- Bits above the fields don't change their numbers.
pub split-above : (ws : List ℕ) (a x : ℕ) → split ws (a * 2 ^ bits ws + x) ≡ split ws x
split-above [] a x = refl
split-above (w ∷ ws) a x =
    let whole : a * 2 ^ (w + bits ws) ≡ (a * 2 ^ w) * 2 ^ bits ws = ap (λ (k : ℕ). a * k) (pow-add 2 w (bits ws))
    ∙ sym (mul_assoc a (2 ^ w) (2 ^ bits ws)) in
    let first = above a w (bits ws) x in
    let rest : split ws (a * 2 ^ (w + bits ws) + x) ≡ split ws x = ap (λ (k : ℕ). split ws (k + x)) whole
    ∙ split-above ws (a * 2 ^ w) x in
    rw (first, rest) refl

pub split-joined : (ws ns : List ℕ) → NumbersFit ws ns → split ws (joined ws ns) ≡ ns
split-joined [] [] fits = refl
split-joined [] (n ∷ ns) fits = absurd fits
split-joined (w ∷ ws) [] fits = absurd fits
split-joined (w ∷ ws) (n ∷ ns) fits =
    let first : (n * 2 ^ bits ws + joined ws ns) / 2 ^ bits ws % 2 ^ w ≡ n =
    ap (λ (k : ℕ). k % 2 ^ w) (div-mul-add n (2 ^ bits ws) (joined ws ns) (joined-lt ws ns fits.1))
    ∙ mod-eq_of_lt fits.0 in
    let rest : split ws (n * 2 ^ bits ws + joined ws ns) ≡ ns = split-above ws n (joined ws ns)
    ∙ split-joined ws ns fits.1 in
    rw (first, rest) refl

-- Each number that was split off fits its field.
pub split-below : (ws : List ℕ) (x k : ℕ) → slice_index (split ws x) k < 2 ^ slice_index ws k
split-below [] x k = omega arith
split-below (w ∷ ws) x zero = mod-lt (x / 2 ^ bits ws) (pow_pos w)
split-below (w ∷ ws) x (suc k) = split-below ws x k

pub length-split : (ws : List ℕ) (x : ℕ) → length (split ws x) ≡ length ws
length-split [] x = refl
length-split (w ∷ ws) x = ap suc (length-split ws x)

-- ---- numbers that fit

pub length-fit : (ws ns : List ℕ) → NumbersFit ws ns → length ns ≡ length ws
length-fit [] [] fits = refl
length-fit [] (n ∷ ns) fits = absurd fits
length-fit (w ∷ ws) [] fits = absurd fits
length-fit (w ∷ ws) (n ∷ ns) fits = ap suc (length-fit ws ns fits.1)

pub number_fits : (ws ns : List ℕ) (k : ℕ) → NumbersFit ws ns → slice_index ns k < 2 ^ slice_index ws k
number_fits [] [] k fits = omega arith
number_fits [] (n ∷ ns) k fits = absurd fits
number_fits (w ∷ ws) [] k fits = absurd fits
number_fits (w ∷ ws) (n ∷ ns) zero fits = fits.0
number_fits (w ∷ ws) (n ∷ ns) (suc k) fits = number_fits ws ns k fits.1

pub all_fit : (ws ns : List ℕ) → length ns ≡ length ws
    → ((k : ℕ) → k < length ws → slice_index ns k < 2 ^ slice_index ws k) → NumbersFit ws ns
all_fit [] [] same each = tt
all_fit [] (n ∷ ns) same each = absurd (omega arith)
all_fit (w ∷ ws) [] same each = absurd (omega arith)
all_fit (w ∷ ws) (n ∷ ns) same each =
    (each 0 (omega arith), all_fit ws ns (omega arith) (λ k lt. each (suc k) (omega arith)))

-- ---- whole bytes

pub and_first : (a b : Bool) → (a && b) ≡ true → a ≡ true
and_first true b h = refl
and_first false b h = absurd cc

pub and_second : (a b : Bool) → (a && b) ≡ true → b ≡ true
and_second true b h = h
and_second false b h = absurd cc

pub field_is_short : (from w : ℕ) (ws : List ℕ) → are_whole from (w ∷ ws) ≡ true → from % 8 + w ≤ 64
field_is_short from w ws h = leb-true (from % 8 + w) 64 (and_first _ _ h)

pub rest_is_whole : (from w : ℕ) (ws : List ℕ) → are_whole from (w ∷ ws) ≡ true → are_whole (from + w) ws ≡ true
rest_is_whole from w ws h = and_second _ _ h

ends_whole : (ws : List ℕ) (from : ℕ) → are_whole from ws ≡ true → (from + bits ws) % 8 ≡ 0
ends_whole [] from h = let e = eqb-true (from % 8) 0 h in omega (arith, e)
ends_whole (w ∷ ws) from h = let r = ends_whole ws (from + w) (rest_is_whole from w ws h) in omega (arith, r)

pub bits_in : (ws : List ℕ) → are_whole 0 ws ≡ true → 8 * bytes_in ws ≡ bits ws
bits_in ws h = let r = ends_whole ws 0 h in omega (arith, r)

pub fields_whole : (ws : List ℕ) → are_fields ws ≡ true → are_whole 0 ws ≡ true
fields_whole ws h = and_first _ _ h

pub fields_few : (ws : List ℕ) → are_fields ws ≡ true → bits ws < 2 ^ 32
fields_few ws h = ltb-true (bits ws) (2 ^ 32) (and_second (are_whole 0 ws) _ h)

-- ---- numbers of bytes

-- the bytes of a number, in two parts
pub number-parts : (xs : List ℕ) (o a b : ℕ) → number xs o (a + b) ≡ number xs o a * 256 ^ b + number xs (o + a) b
unfolding number
number-parts xs o zero b =
    let all : 0 + b ≡ b = omega arith in
    let here : o + 0 ≡ o = omega arith in
    rw (all, here) (omega arith)
number-parts xs o (suc a) b =
    let rest = number-parts xs (suc o) a b in
    let moved : suc o + a ≡ o + suc a = omega arith in
    let next : suc a + b ≡ suc (a + b) = omega arith in
    let power = pow-add 256 a b in
    let d = slice_index xs o in
    let scaled : d * (256 ^ a * 256 ^ b) ≡ d * 256 ^ a * 256 ^ b = sym (mul_assoc d (256 ^ a) (256 ^ b)) in
    let apart = add-mul (d * 256 ^ a) (big_from (suc o) a xs) (256 ^ b) in
    rw (next, rest, power, scaled, moved, apart) (omega arith)

-- the w bits that are s + 8 * c bits above the end of a number, which ends with b bytes and then c bytes; the b bytes
-- begin with at most `before` other bits and then the w bits
middle : (A B C before w s b c : ℕ) → before + w + s ≡ 8 * b → C < 256 ^ c
    → ((A * 256 ^ b + B) * 256 ^ c + C) / 2 ^ (8 * c + s) % 2 ^ w ≡ B / 2 ^ s % 2 ^ w
middle A B C before w s b c is small =
    let shift : ((A * 256 ^ b + B) * 256 ^ c + C) / 2 ^ (8 * c + s) ≡ (A * 256 ^ b + B) / 2 ^ s =
    ap (λ (p : ℕ). ((A * 256 ^ b + B) * 256 ^ c + C) / p) (pow-add 2 (8 * c) s)
    ∙ sym (div-div-eq-div-mul ((A * 256 ^ b + B) * 256 ^ c + C) (2 ^ (8 * c)) (2 ^ s))
    ∙ ap (λ (p : ℕ). ((A * 256 ^ b + B) * 256 ^ c + C) / p / 2 ^ s) (sym (pow256 c))
    ∙ ap (λ (p : ℕ). p / 2 ^ s) (div-mul-add (A * 256 ^ b + B) (256 ^ c) C small) in
    let power : 256 ^ b ≡ 2 ^ before * 2 ^ (w + s) =
    pow256 b ∙ ap (λ (k : ℕ). 2 ^ k) (let e : 8 * b ≡ before + (w + s) = omega arith in e)
    ∙ pow-add 2 before (w + s) in
    let high : A * 256 ^ b ≡ A * 2 ^ before * 2 ^ (w + s) = ap (λ (p : ℕ). A * p) power
    ∙ sym (mul_assoc A (2 ^ before) (2 ^ (w + s))) in
    ap (λ (k : ℕ). k % 2 ^ w) shift ∙ ap (λ (k : ℕ). (k + B) / 2 ^ s % 2 ^ w) high ∙ above (A * 2 ^ before) w s B

-- the w bits that are r bits above the end of W bytes, after the first a bytes and `before` bits
pub bits_at_offset : (xs : List ℕ) (at W a before w r : ℕ) → AreBytes xs → 8 * W ≡ 8 * a + (before + w) + r
    → number xs at W / 2 ^ r % 2 ^ w
    ≡ number xs (at + a) ((before + w + 7) / 8) / 2 ^ (8 * ((before + w + 7) / 8) - (before + w)) % 2 ^ w
bits_at_offset xs at W a before w r are is =
    let b = (before + w + 7) / 8 in
    let c = W - (a + b) in
    let s = 8 * b - (before + w) in
    let whole : W ≡ a + b + c = omega arith in
    let rest : r ≡ 8 * c + s = omega arith in
    let parts : number xs at (a + b + c) ≡ (number xs at a * 256 ^ b + number xs (at + a) b) * 256 ^ c + number xs
    (at + (a + b)) c =
    number-parts xs at (a + b) c ∙ ap (λ (k : ℕ). k * 256 ^ c + number xs (at + (a + b)) c) (number-parts xs at a b) in
    let low = number-below xs (at + (a + b)) c are in
    let within : before + w + s ≡ 8 * b = omega arith in
    ap (λ (k : ℕ). number xs at k / 2 ^ r % 2 ^ w) whole ∙ ap (λ (k : ℕ). k / 2 ^ r % 2 ^ w) parts
    ∙ ap (λ (k : ℕ). ((number xs at a * 256 ^ b + number xs (at + a) b) * 256 ^ c + number xs (at + (a + b)) c)
    / 2 ^ k % 2 ^ w) rest
    ∙ middle (number xs at a) (number xs (at + a) b) (number xs (at + (a + b)) c) before w s b c within low

-- ---- the bytes of a number, in two parts

byte_at-div : (k n : ℕ) → byte_at k n ≡ n / 256 ^ k % 256
byte_at-div zero n = ap (λ (y : ℕ). y % 256) (sym (div-one n))
byte_at-div (suc k) n = refl

pub be_bytes-parts : (a b n : ℕ) → be_bytes (a + b) n ≡ be_bytes a (n / 256 ^ b) ++ be_bytes b n
unfolding be_bytes
be_bytes-parts zero b n = let all : 0 + b ≡ b = omega arith in rw all refl
be_bytes-parts (suc a) b n =
    let rest = be_bytes-parts a b n in
    let power : 256 ^ (a + b) ≡ 256 ^ b * 256 ^ a = pow-add 256 a b ∙ mul_comm (256 ^ a) (256 ^ b) in
    let byte : byte_at (a + b) n ≡ byte_at a (n / 256 ^ b) = byte_at-div (a + b) n ∙ ap (λ (p : ℕ). n / p % 256) power
    ∙ ap (λ (p : ℕ). p % 256) (sym (div-div-eq-div-mul n (256 ^ b) (256 ^ a)))
    ∙ sym (byte_at-div a (n / 256 ^ b)) in
    let next : suc a + b ≡ suc (a + b) = omega arith in
    rw (next, byte, rest) refl

-- Cutting off the bits above the lowest a + b, and then the lowest b, gives the a bits between.
pub cut_twice : (n a b : ℕ) → n % 2 ^ (a + b) / 2 ^ b ≡ n / 2 ^ b % 2 ^ a
cut_twice n a b = ap (λ (k : ℕ). k / 2 ^ b) (mod-pow-add n a b)
    ∙ div-mul-add (n / 2 ^ b % 2 ^ a) (2 ^ b) (n % 2 ^ b) (mod-lt n (pow_pos b))

pub cut_again : (n a b : ℕ) → n % 2 ^ (a + b) % 2 ^ b ≡ n % 2 ^ b
cut_again n a b = ap (λ (k : ℕ). k % 2 ^ b) (mod-pow-add n a b)
    ∙ mod-mul-add (n / 2 ^ b % 2 ^ a) (2 ^ b) (n % 2 ^ b) (mod-lt n (pow_pos b))

byte_at-mod : (k w n : ℕ) → k < w → byte_at k (n % 256 ^ w) ≡ byte_at k n
byte_at-mod k w n lt =
    let more : 8 * w ≡ (8 * (w - k - 1) + 8) + 8 * k = omega arith in
    let power : 256 ^ w ≡ 2 ^ ((8 * (w - k - 1) + 8) + 8 * k) = pow256 w ∙ ap (λ (e : ℕ). 2 ^ e) more in
    byte_at-div k (n % 256 ^ w)
    ∙ ap (λ (p : ℕ). n % p / 256 ^ k % 256) power
    ∙ ap (λ (p : ℕ). n % 2 ^ ((8 * (w - k - 1) + 8) + 8 * k) / p % 256) (pow256 k)
    ∙ ap (λ (m : ℕ). m % 256) (cut_twice n (8 * (w - k - 1) + 8) (8 * k))
    ∙ cut_again (n / 2 ^ (8 * k)) (8 * (w - k - 1)) 8
    ∙ ap (λ (p : ℕ). n / p % 256) (sym (pow256 k))
    ∙ sym (byte_at-div k n)

pub be_bytes-mod : (w n : ℕ) → be_bytes w (n % 256 ^ w) ≡ be_bytes w n
unfolding be_bytes
be_bytes-mod w n = by w (omega arith)
  where
    by : (k : ℕ) → k ≤ w → big_bytes k (n % 256 ^ w) ≡ big_bytes k n
    by zero le = refl
    by (suc k) le =
        let first = byte_at-mod k w n (omega arith) in
        let rest = by k (omega arith) in
        rw (first, rest) refl
