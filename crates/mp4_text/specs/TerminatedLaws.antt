-- The laws of zero-terminated strings: they are read back as they were written, and can be written if they were read.
use Rattle.std.proofs.Common.{◌≡◌, ℕ, suc, ◌+◌, ◌≤◌, Bool, true, false, cond, ◌||◌, List, [], ◌∷◌, ◌++◌, length, take}
use Rattle.std.proofs.Common.{drop, Ok, refl, ap, subst, ◌∙◌, arith, length-append, append_assoc}
use Rattle.std.proofs.lemmas.Bool.{or_parts}
use Rattle.std.proofs.lemmas.List.{drop_at, take_at}
use Rattle.std.proofs.lemmas.Str.{IsUtf8-from_is_utf8}
use Rattle.std.specs.List.{before_first, list_any, position_or_len}
use Rattle.std.specs.Prelude.{not}
use Rattle.std.specs.Str.{is_utf8}
use Rattle.mp4_frame.specs.Reading.{Reading, ◌>>=◌, expect_bytes, memory, done}
use Rattle.mp4_frame.proofs.Checks.{expect_bytes_present, expect_bytes_ok, check_ok, is_value}
use Rattle.mp4_frame.proofs.Tables.{value_first}
use Rattle.mp4_frame.specs.TextLaws.{utf8_passes}
use Rattle.mp4_text.specs.Terminated.{is_zero, before_zero, utf8_text, terminated_text, two_texts, text_and_zero}
use Rattle.mp4_text.specs.Terminated.{IsTerminable}

-- the reading that returns this value and asks for memory
abbrev pub with_value : {A : Type 0} → A → Reading A
with_value v = record { asks_memory = true; outcome = Ok v }

zero_at : (text rest : List ℕ) → list_any is_zero text ≡ false
    → position_or_len is_zero (text ++ 0 ∷ rest) ≡ length text
zero_at [] rest e = refl
zero_at (b ∷ text) rest e =
    let p = or_parts (is_zero b) (list_any is_zero text) e in
    let later : position_or_len is_zero (text ++ 0 ∷ rest) ≡ length text = zero_at text rest p.1 in
    ap (λ (z : Bool). cond (not z) (1 + position_or_len is_zero (text ++ 0 ∷ rest)) 0) p.0
    ∙ (let n : 1 + position_or_len is_zero (text ++ 0 ∷ rest) ≡ length (b ∷ text) = omega (arith, later) in n)

pub text_back : (x text y : List ℕ) (o : ℕ) → length x ≡ o → IsTerminable text
    → terminated_text (x ++ (text ++ 0 ∷ y)) o ≡ with_value text
unfolding terminated_text
text_back x text y o at is =
    let B = x ++ (text ++ 0 ∷ y) in
    let d : drop o B ≡ text ++ 0 ∷ y = drop_at x (text ++ 0 ∷ y) o at in
    let t : before_zero B o ≡ text =
    ap (λ (l : List ℕ). before_first is_zero l) d ∙ ap (λ (n : ℕ). take n (text ++ 0 ∷ y)) (zero_at text y is.no_zero)
    ∙ take_at text (0 ∷ y) (length text) refl in
    let room : o + (length text + 1) ≤ length B =
    omega (arith, length-append x (text ++ 0 ∷ y), length-append text (0 ∷ y), at) in
    ap (λ (l : List ℕ). expect_bytes B o (length l + 1) >>= λ _. utf8_text l >>= λ text. memory >>= λ _. done text) t
    ∙ rw (expect_bytes_present B o (length text + 1) room, utf8_passes text is.utf8) refl

-- two strings are read back
pub two_back : (x s t y : List ℕ) (o : ℕ) → length x ≡ o → IsTerminable s → IsTerminable t
    → two_texts (x ++ ((text_and_zero s ++ text_and_zero t) ++ y)) o ≡ with_value (s, t)
unfolding two_texts
two_back x s t y o at is it =
    let B = x ++ ((text_and_zero s ++ text_and_zero t) ++ y) in
    let here : B ≡ x ++ (s ++ 0 ∷ (text_and_zero t ++ y)) = simp append_assoc in
    let there : B ≡ (x ++ text_and_zero s) ++ (t ++ 0 ∷ y) = simp append_assoc in
    let next : length (x ++ text_and_zero s) ≡ o + length s + 1 =
    omega (arith, length-append x (text_and_zero s), length-append s (0 ∷ []), at) in
    let first : terminated_text B o ≡ with_value s = ap (λ (l : List ℕ). terminated_text l o) here
    ∙ text_back x s (text_and_zero t ++ y) o at is in
    let second : terminated_text B (o + length s + 1) ≡ with_value t =
    ap (λ (l : List ℕ). terminated_text l (o + length s + 1)) there
    ∙ text_back (x ++ text_and_zero s) t y (o + length s + 1) next it in
    rw (first, second) refl

none_by : (b n : ℕ) (xs : List ℕ) (z : Bool) → is_zero b ≡ z → list_any is_zero (take n xs) ≡ false
    → list_any is_zero (take (cond (not z) (1 + n) 0) (b ∷ xs)) ≡ false
none_by b n xs true e later = refl
none_by b n xs false e later =
    let next : 1 + n ≡ suc n = omega arith in
    rw next (ap (λ (z : Bool). z || list_any is_zero (take n xs)) e ∙ later)

none_before : (xs : List ℕ) → list_any is_zero (before_first is_zero xs) ≡ false
none_before [] = refl
none_before (b ∷ xs) = none_by b (position_or_len is_zero xs) xs (is_zero b) refl (none_before xs)

pub text_is : (bytes : List ℕ) (o : ℕ) (text : List ℕ) → (terminated_text bytes o).outcome ≡ Ok text → IsTerminable text
unfolding terminated_text
text_is bytes o text e =
    let z = before_zero bytes o in
    let last = λ (text : List ℕ). memory >>= λ _. done text in
    let p = value_first (utf8_text z) last text
    (expect_bytes_ok bytes o (length z + 1) (λ _. utf8_text z >>= last) text e) in
    let t = check_ok (is_utf8 z) (λ _. done z) p.0 p.1 in
    let same : z ≡ text = is_value z p.0 t.1 ∙ is_value p.0 text p.2 in
    rw (← same) (record { utf8 = IsUtf8-from_is_utf8 z t.0; no_zero = none_before (drop o bytes) })

pub texts_are : (bytes : List ℕ) (o : ℕ) (texts : List ℕ × List ℕ) → (two_texts bytes o).outcome ≡ Ok texts
    → IsTerminable texts.0 × IsTerminable texts.1
unfolding two_texts
texts_are bytes o texts e =
    let p = value_first (terminated_text bytes o)
    (λ first. terminated_text bytes (o + length first + 1) >>= λ second. done (first, second)) texts e in
    let q = value_first (terminated_text bytes (o + length p.0 + 1)) (λ second. done (p.0, second)) texts p.2 in
    let is : (p.0, q.0) ≡ texts = is_value (p.0, q.0) texts q.2 in
    subst (λ (ts : List ℕ × List ℕ). IsTerminable ts.0 × IsTerminable ts.1) is
    (text_is bytes o p.0 p.1, text_is bytes (o + length p.0 + 1) q.0 q.1)
