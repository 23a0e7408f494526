-- The laws of an expandable size, and of the shape that ends where it says.
use Rattle.std.proofs.Common.{◌≡◌, ℕ, zero, suc, ◌+◌, ◌*◌, ◌/◌, ◌%◌, ◌<◌, ◌≤◌, Bool, true, false, cond, ltb, leb, eqb}
use Rattle.std.proofs.Common.{List, ◌++◌, length, Result, Ok, Err, refl, sym, ap, subst, ◌∙◌, append_assoc}
use Rattle.std.proofs.Common.{length-append, lit≤, arith}
use Rattle.std.proofs.lemmas.Bool.{lt-ltb, le-ltb, ltb-true, le-leb, eq-eqb, eqb-true}
use Rattle.mp4_frame.specs.Bytes.{number, be_bytes}
use Rattle.mp4_frame.specs.Laws.{AreBytes}
use Rattle.mp4_frame.specs.Reading.{Reading, Fault, End, ◌>>=◌, done, check, expect_bytes}
use Rattle.mp4_frame.specs.declared.error.Error.TheVariants as errors
use Rattle.mp4_frame.proofs.Checks.{check_ok, expect_bytes_present, expect_bytes_ok, is_value, past_check}
use Rattle.mp4_frame.proofs.Decided.{first_faults, outcome_bind}
use Rattle.mp4_frame.proofs.Fields.{length-be_bytes}
use Rattle.mp4_frame.proofs.Tables.{value_first}
use Rattle.mp4_declared.specs.declared.context.Context.{Context}
use Rattle.mp4_declared.specs.Shape.{Shape}
use Rattle.mp4_declared.specs.ShapeLaws.{IsShape, ends_always, expect_bytes_absent, number_put, put_room}
use Rattle.mp4_extra_sound.specs.Expandable.{fourth_byte, third_byte, second_byte, size_at, sizes_in, last_byte}
use Rattle.mp4_extra_sound.specs.Expandable.{two_bytes, three_bytes, four_bytes, size_bytes, reads_inside}
use Rattle.mp4_extra_sound.specs.Expandable.{expandable_shape}

pub sizes_small : (w : ℕ) → sizes_in w ≤ 268435456
sizes_small w = by (eqb w 1) (eqb w 2) (eqb w 3)
  where
    by : (a b c : Bool) → cond a 128 (cond b 16384 (cond c 2097152 268435456)) ≤ 268435456
    by true b c = lit≤ tt
    by false true c = lit≤ tt
    by false false true = lit≤ tt
    by false false false = lit≤ tt

-- a property of 1 to 4
from_one_to_four : (P : ℕ → Type 0) → P 1 → P 2 → P 3 → P 4 → (w : ℕ) → 1 ≤ w → w ≤ 4 → P w
from_one_to_four P a b c d zero least most = absurd (omega (arith, least))
from_one_to_four P a b c d (suc zero) least most = a
from_one_to_four P a b c d (suc (suc zero)) least most = b
from_one_to_four P a b c d (suc (suc (suc zero))) least most = c
from_one_to_four P a b c d (suc (suc (suc (suc zero)))) least most = d
from_one_to_four P a b c d (suc (suc (suc (suc (suc w))))) least most = absurd (omega (arith, most))

-- ---- the bytes of a size

-- The byte b is at offset o.
abbrev There : List ℕ → ℕ → ℕ → Type 0
There bytes o b = (expect_bytes bytes o 1 ≡ done tt) × (number bytes o 1 ≡ b)

there : (front rest bytes : List ℕ) (o b : ℕ) → bytes ≡ front ++ (be_bytes 1 b ++ rest) → length front ≡ o → b < 256
    → There bytes o b
there front rest bytes o b is at small =
    let room : o + 1 ≤ length bytes =
    omega (arith, ap length is, put_room front (be_bytes 1 b) rest 1 (length-be_bytes 1 b), at) in (
      expect_bytes_present bytes o 1 room,
      ap (λ (bs : List ℕ). number bs o 1) is
          ∙ (ap (λ (k : ℕ). number (front ++ (be_bytes 1 b ++ rest)) k 1) (sym at)
          ∙ number_put front rest 1 b (omega (arith, small))),
    )

abbrev found : ℕ → ℕ → Result (ℕ × ℕ) Fault
found w n = Ok (w, n)

module _ (bytes : List ℕ) (o : ℕ) where
  last_of_four : (m b : ℕ) → There bytes (o + 3) b → b < 128 → (fourth_byte bytes o m).outcome ≡ found 4 (m * 128 + b)
  last_of_four m b h small =
      let is : ltb b 128 ≡ true = lt-ltb b 128 small in
      rw (h.0, h.1, is) refl

  last_of_three : (m b : ℕ) → There bytes (o + 2) b → b < 128 → (third_byte bytes o m).outcome ≡ found 3 (m * 128 + b)
  last_of_three m b h small =
      let is : ltb b 128 ≡ true = lt-ltb b 128 small in
      rw (h.0, h.1, is) refl

  after_three : (m b : ℕ) → There bytes (o + 2) b → 128 ≤ b
      → (third_byte bytes o m).outcome ≡ (fourth_byte bytes o (m * 128 + b % 128)).outcome
  after_three m b h large =
      let is : ltb b 128 ≡ false = le-ltb b 128 large in
      rw (h.0, h.1, is) refl

  last_of_two : (m b : ℕ) → There bytes (o + 1) b → b < 128 → (second_byte bytes o m).outcome ≡ found 2 (m * 128 + b)
  last_of_two m b h small =
      let is : ltb b 128 ≡ true = lt-ltb b 128 small in
      rw (h.0, h.1, is) refl

  after_two : (m b : ℕ) → There bytes (o + 1) b → 128 ≤ b
      → (second_byte bytes o m).outcome ≡ (third_byte bytes o (m * 128 + b % 128)).outcome
  after_two m b h large =
      let is : ltb b 128 ≡ false = le-ltb b 128 large in
      rw (h.0, h.1, is) refl

  last_of_one : (b : ℕ) → There bytes o b → b < 128 → (size_at bytes o).outcome ≡ found 1 b
  unfolding size_at
  last_of_one b h small =
      let is : ltb b 128 ≡ true = lt-ltb b 128 small in
      rw (h.0, h.1, is) refl

  after_one : (b : ℕ) → There bytes o b → 128 ≤ b → (size_at bytes o).outcome ≡ (second_byte bytes o (b % 128)).outcome
  unfolding size_at
  after_one b h large =
      let is : ltb b 128 ≡ false = le-ltb b 128 large in
      rw (h.0, h.1, is) refl

-- the numbers that the bytes of a size make
two_make : (n : ℕ) → n < 16384 → (128 + n / 128 % 128) % 128 * 128 + n % 128 ≡ n
two_make n small = omega (arith, small)

three_make : (n : ℕ) → n < 2097152
    → ((128 + n / 128 / 128 % 128) % 128 * 128 + (128 + n / 128 % 128) % 128) * 128 + n % 128 ≡ n
three_make n small = omega (arith, small)

four_make : (n : ℕ) → n < 268435456
    → (((128 + n / 128 / 128 / 128 % 128) % 128 * 128 + (128 + n / 128 / 128 % 128) % 128) * 128
    + (128 + n / 128 % 128) % 128) * 128 + n % 128 ≡ n
four_make n small = omega (arith, small)

-- the bytes of a size of four bytes, the last one first
abbrev byte0 : ℕ → ℕ
byte0 n = n % 128

abbrev byte1 : ℕ → ℕ
byte1 n = 128 + n / 128 % 128

abbrev byte2 : ℕ → ℕ
byte2 n = 128 + n / 128 / 128 % 128

abbrev byte3 : ℕ → ℕ
byte3 n = 128 + n / 128 / 128 / 128 % 128

module _ (x y : List ℕ) (n : ℕ) where
  after_byte : (p : List ℕ) (k : ℕ) → length (p ++ be_bytes 1 k) ≡ length p + 1
  after_byte p k = omega (arith, length-append p (be_bytes 1 k), length-be_bytes 1 k)

  one_back : n < 128 → (size_at (x ++ (last_byte n ++ y)) (length x)).outcome ≡ found 1 n
  one_back small =
      let d = byte0 n in
      let bytes = x ++ (be_bytes 1 d ++ y) in
      let is : d ≡ n = omega (arith, small) in
      last_of_one bytes (length x) d (there x y bytes (length x) d refl refl (omega arith)) (omega arith)
      ∙ ap (found 1) is

  two_back : n < 16384 → (size_at (x ++ (two_bytes n ++ y)) (length x)).outcome ≡ found 2 n
  two_back small =
      let c = byte1 n in
      let d = byte0 n in
      let o = length x in
      let p = be_bytes 1 c in
      let q = be_bytes 1 d in
      let bytes = x ++ ((p ++ q) ++ y) in
      let by_p : bytes ≡ x ++ (p ++ (q ++ y)) = simp append_assoc in
      let by_q : bytes ≡ (x ++ p) ++ (q ++ y) = simp append_assoc in
      let at_p = there x (q ++ y) bytes o c by_p refl (omega arith) in
      let at_q = there (x ++ p) y bytes (o + 1) d by_q (after_byte x c) (omega arith) in
      after_one bytes o c at_p (omega arith)
      ∙ (last_of_two bytes o (c % 128) d at_q (omega arith) ∙ ap (found 2) (two_make n small))

  three_back : n < 2097152 → (size_at (x ++ (three_bytes n ++ y)) (length x)).outcome ≡ found 3 n
  three_back small =
      let b = byte2 n in
      let c = byte1 n in
      let d = byte0 n in
      let o = length x in
      let p = be_bytes 1 b in
      let q = be_bytes 1 c in
      let r = be_bytes 1 d in
      let bytes = x ++ ((p ++ (q ++ r)) ++ y) in
      let by_p : bytes ≡ x ++ (p ++ (q ++ (r ++ y))) = simp append_assoc in
      let by_q : bytes ≡ (x ++ p) ++ (q ++ (r ++ y)) = simp append_assoc in
      let by_r : bytes ≡ ((x ++ p) ++ q) ++ (r ++ y) = simp append_assoc in
      let first = after_byte x b in
      let second = after_byte (x ++ p) c in
      let at_p = there x (q ++ (r ++ y)) bytes o b by_p refl (omega arith) in
      let at_q = there (x ++ p) (r ++ y) bytes (o + 1) c by_q first (omega arith) in
      let at_r = there ((x ++ p) ++ q) y bytes (o + 2) d by_r (omega (arith, first, second)) (omega arith) in
      after_one bytes o b at_p (omega arith)
      ∙ (after_two bytes o (b % 128) c at_q (omega arith)
      ∙ (last_of_three bytes o (b % 128 * 128 + c % 128) d at_r (omega arith) ∙ ap (found 3) (three_make n small)))

  four_back : n < 268435456 → (size_at (x ++ (four_bytes n ++ y)) (length x)).outcome ≡ found 4 n
  four_back small =
      let a = byte3 n in
      let b = byte2 n in
      let c = byte1 n in
      let d = byte0 n in
      let o = length x in
      let p = be_bytes 1 a in
      let q = be_bytes 1 b in
      let r = be_bytes 1 c in
      let s = be_bytes 1 d in
      let bytes = x ++ ((p ++ (q ++ (r ++ s))) ++ y) in
      let by_p : bytes ≡ x ++ (p ++ (q ++ (r ++ (s ++ y)))) = simp append_assoc in
      let by_q : bytes ≡ (x ++ p) ++ (q ++ (r ++ (s ++ y))) = simp append_assoc in
      let by_r : bytes ≡ ((x ++ p) ++ q) ++ (r ++ (s ++ y)) = simp append_assoc in
      let by_s : bytes ≡ (((x ++ p) ++ q) ++ r) ++ (s ++ y) = simp append_assoc in
      let first = after_byte x a in
      let second = after_byte (x ++ p) b in
      let third = after_byte ((x ++ p) ++ q) c in
      let at_p = there x (q ++ (r ++ (s ++ y))) bytes o a by_p refl (omega arith) in
      let at_q = there (x ++ p) (r ++ (s ++ y)) bytes (o + 1) b by_q first (omega arith) in
      let at_r = there ((x ++ p) ++ q) (s ++ y) bytes (o + 2) c by_r (omega (arith, first, second)) (omega arith) in
      let at_s = there (((x ++ p) ++ q) ++ r) y bytes (o + 3) d by_s (omega (arith, first, second, third))
      (omega arith) in
      after_one bytes o a at_p (omega arith)
      ∙ (after_two bytes o (a % 128) b at_q (omega arith)
      ∙ (after_three bytes o (a % 128 * 128 + b % 128) c at_r (omega arith)
      ∙ (last_of_four bytes o ((a % 128 * 128 + b % 128) * 128 + c % 128) d at_s (omega arith)
      ∙ ap (found 4) (four_make n small))))

  -- A size that is written is read back.
  size_back : (w : ℕ) → 1 ≤ w → w ≤ 4 → n < sizes_in w
      → (size_at (x ++ (size_bytes w n ++ y)) (length x)).outcome ≡ found w n
  unfolding size_bytes
  size_back w least most =
      from_one_to_four
      (λ k. n < sizes_in k → (size_at (x ++ (size_bytes k n ++ y)) (length x)).outcome ≡ found k n)
      one_back two_back three_back four_back w least most

-- A size has as many bytes as it says.
size_long : (w n : ℕ) → 1 ≤ w → w ≤ 4 → length (size_bytes w n) ≡ w
unfolding size_bytes
size_long w n least most =
    from_one_to_four (λ k. length (size_bytes k n) ≡ k) one two three four w least most
  where
    one : length (last_byte n) ≡ 1
    one = length-be_bytes 1 (n % 128)

    two : length (two_bytes n) ≡ 2
    two = omega (
      arith,
      length-append (be_bytes 1 (128 + n / 128 % 128)) (last_byte n),
      length-be_bytes 1 (128 + n / 128 % 128),
      one,
    )

    three : length (three_bytes n) ≡ 3
    three = omega (
      arith,
      length-append (be_bytes 1 (128 + n / 128 / 128 % 128)) (two_bytes n),
      length-be_bytes 1 (128 + n / 128 / 128 % 128),
      two,
    )

    four : length (four_bytes n) ≡ 4
    four = omega (
      arith,
      length-append (be_bytes 1 (128 + n / 128 / 128 / 128 % 128)) (three_bytes n),
      length-be_bytes 1 (128 + n / 128 / 128 / 128 % 128),
      three,
    )

-- ---- a size that is read

abbrev InRoom : ℕ × ℕ → Type 0
InRoom p = (1 ≤ p.0) × (p.0 ≤ 4) × (p.1 < sizes_in p.0)

module _ (bytes : List ℕ) (o : ℕ) where
  fourth_in_room : (m : ℕ) (p : ℕ × ℕ) → m < 2097152 → (fourth_byte bytes o m).outcome ≡ Ok p → InRoom p
  fourth_in_room m p small read =
      let n = number bytes (o + 3) 1 in
      let one = expect_bytes_ok bytes (o + 3) 1 (λ _. check (ltb n 128) >>= λ _. done (4, m * 128 + n)) p read in
      let two = check_ok (ltb n 128) (λ _. done (4, m * 128 + n)) p one in
      let last = ltb-true n 128 two.0 in
      let fits : m * 128 + n < 268435456 = omega (arith, small, last) in
      subst InRoom (is_value (4, m * 128 + n) p two.1) (lit≤ tt, lit≤ tt, fits)

  third_by : (m n : ℕ) (p : ℕ × ℕ) (t : Bool) → m < 16384 → ltb n 128 ≡ t
      → (cond t (done (3, m * 128 + n)) (fourth_byte bytes o (m * 128 + n % 128))).outcome ≡ Ok p → InRoom p
  third_by m n p true small is e =
      let last = ltb-true n 128 is in
      let fits : m * 128 + n < 2097152 = omega (arith, small, last) in
      subst InRoom (is_value (3, m * 128 + n) p e) (lit≤ tt, lit≤ tt, fits)
  third_by m n p false small is e = fourth_in_room (m * 128 + n % 128) p (omega (arith, small)) e

  third_in_room : (m : ℕ) (p : ℕ × ℕ) → m < 16384 → (third_byte bytes o m).outcome ≡ Ok p → InRoom p
  third_in_room m p small read =
      let n = number bytes (o + 2) 1 in
      third_by m n p (ltb n 128) small refl
      (expect_bytes_ok bytes (o + 2) 1
      (λ _. cond (ltb n 128) (done (3, m * 128 + n)) (fourth_byte bytes o (m * 128 + n % 128))) p read)

  second_by : (m n : ℕ) (p : ℕ × ℕ) (t : Bool) → m < 128 → ltb n 128 ≡ t
      → (cond t (done (2, m * 128 + n)) (third_byte bytes o (m * 128 + n % 128))).outcome ≡ Ok p → InRoom p
  second_by m n p true small is e =
      let last = ltb-true n 128 is in
      let fits : m * 128 + n < 16384 = omega (arith, small, last) in
      subst InRoom (is_value (2, m * 128 + n) p e) (lit≤ tt, lit≤ tt, fits)
  second_by m n p false small is e = third_in_room (m * 128 + n % 128) p (omega (arith, small)) e

  second_in_room : (m : ℕ) (p : ℕ × ℕ) → m < 128 → (second_byte bytes o m).outcome ≡ Ok p → InRoom p
  second_in_room m p small read =
      let n = number bytes (o + 1) 1 in
      second_by m n p (ltb n 128) small refl
      (expect_bytes_ok bytes (o + 1) 1
      (λ _. cond (ltb n 128) (done (2, m * 128 + n)) (third_byte bytes o (m * 128 + n % 128))) p read)

  first_by : (n : ℕ) (p : ℕ × ℕ) (t : Bool) → ltb n 128 ≡ t
      → (cond t (done (1, n)) (second_byte bytes o (n % 128))).outcome ≡ Ok p → InRoom p
  first_by n p true is e =
      let last = ltb-true n 128 is in
      subst InRoom (is_value (1, n) p e) (lit≤ tt, lit≤ tt, last)
  first_by n p false is e = second_in_room (n % 128) p (omega arith) e

  size_in_room : (p : ℕ × ℕ) → (size_at bytes o).outcome ≡ Ok p → InRoom p
  unfolding size_at
  size_in_room p read =
      let n = number bytes o 1 in
      first_by n p (ltb n 128) refl
      (expect_bytes_ok bytes o 1 (λ _. cond (ltb n 128) (done (1, n)) (second_byte bytes o (n % 128))) p read)

  size_absent : (end : ℕ) → o ≤ length bytes → length bytes < o + 1 → (size_at bytes o).outcome ≡ Err End
  unfolding size_at
  size_absent end le lt = rw (expect_bytes_absent bytes o 1 le lt) refl

-- ---- the shape

module _ {A : Type 0} (s : Shape A) (is : IsShape s) where
  -- a check that the value ends where the size says
  abbrev ends : Context → ℕ → ℕ → ℕ → A → Reading (ℕ × A)
  ends c at w n x = check (eqb (at + w + s.size c x) (at + w + n)) >>= λ _. done (w, x)

  inside_back : (c : Context) (bytes : List ℕ) (at end w : ℕ) (v : A) → at + w + s.size c v ≤ end
      → (s.reads c bytes (at + w) (at + w + s.size c v)).outcome ≡ Ok v
      → (reads_inside s c bytes at end w (s.size c v)).outcome ≡ Ok (w, v)
  unfolding reads_inside
  inside_back c bytes at end w v room read =
      let n = s.size c v in
      let most : leb (at + w + n) end ≡ true = le-leb (at + w + n) end room in
      let whole : eqb (at + w + n) (at + w + n) ≡ true = eq-eqb (at + w + n) (at + w + n) refl in
      past_check (leb (at + w + n) end) (λ _. s.reads c bytes (at + w) (at + w + n) >>= ends c at w n) most
      ∙ outcome_bind (s.reads c bytes (at + w) (at + w + n)) (ends c at w n) v (Ok (w, v)) read
      (past_check (eqb (at + w + n) (at + w + n)) (λ _. done (w, v)) whole)

  -- A value that is written after its size is read back.
  expandable_back : s.valid ≡ true → (c : Context) (v : ℕ × A) (x y : List ℕ) (end : ℕ)
      → (expandable_shape s).Fits c v → length x + (v.0 + s.size c v.1) ≤ end
      → ((expandable_shape s).reads c (x ++ ((size_bytes v.0 (s.size c v.1) ++ s.bytes c v.1) ++ y)) (length x)
      end).outcome ≡ Ok v
  expandable_back valid c v x y end fits inside =
      let w = v.0 in
      let n = s.size c v.1 in
      let size = size_bytes w n in
      let p = s.bytes c v.1 in
      let at = length x in
      let bytes = x ++ ((size ++ p) ++ y) in
      let by_size : bytes ≡ x ++ (size ++ (p ++ y)) = simp append_assoc in
      let by_rest : bytes ≡ (x ++ size) ++ (p ++ y) = simp append_assoc in
      let wide = size_long w n fits.0 fits.1 in
      let after : at + w ≡ length (x ++ size) = omega (arith, length-append x size, wide) in
      let sized : (size_at bytes at).outcome ≡ Ok (w, n) = ap (λ (bs : List ℕ). (size_at bs at).outcome) by_size
      ∙ size_back x (p ++ y) n w fits.0 fits.1 fits.2 in
      let to : length (x ++ size) + n ≡ at + w + n = omega (arith, after) in
      let read : (s.reads c bytes (at + w) (at + w + n)).outcome ≡ Ok v.1 =
      ap (λ (bs : List ℕ). (s.reads c bs (at + w) (at + w + n)).outcome) by_rest
      ∙ (ap (λ (o : ℕ). (s.reads c ((x ++ size) ++ (p ++ y)) o (at + w + n)).outcome) after
      ∙ is.back valid c v.1 (x ++ size) y (at + w + n) fits.3
      (ends_always s.to_end (length (x ++ size) + n) (at + w + n) to)) in
      let room : at + w + n ≤ end = omega (arith, inside) in
      outcome_bind (size_at bytes at) (λ q. reads_inside s c bytes at end q.0 q.1) (w, n) (Ok v) sized
      (inside_back c bytes at end w v.1 room read)

  inside_stable : s.valid ≡ true → (c : Context) (bytes : List ℕ) (at end w n : ℕ) (v : ℕ × A) → AreBytes bytes
      → InRoom (w, n) → (reads_inside s c bytes at end w n).outcome ≡ Ok v → (expandable_shape s).Fits c v
  unfolding reads_inside
  inside_stable valid c bytes at end w n v are sized read =
      let one = check_ok (leb (at + w + n) end) (λ _. s.reads c bytes (at + w) (at + w + n) >>= ends c at w n) v read in
      let p = value_first (s.reads c bytes (at + w) (at + w + n)) (ends c at w n) v one.1 in
      let q = check_ok (eqb (at + w + s.size c p.0) (at + w + n)) (λ _. done (w, p.0)) v p.2 in
      let whole : s.size c p.0 ≡ n =
      omega (arith, eqb-true (at + w + s.size c p.0) (at + w + n) q.0) in
      let small : s.size c p.0 < sizes_in w = subst (λ (k : ℕ). k < sizes_in w) (sym whole) sized.2 in
      subst (λ (u : ℕ × A). (expandable_shape s).Fits c u) (is_value (w, p.0) v q.1)
      (sized.0, sized.1, small, is.stable valid c bytes (at + w) (at + w + n) p.0 are p.1)

  expandable_stable : s.valid ≡ true → (c : Context) (bytes : List ℕ) (at end : ℕ) (v : ℕ × A) → AreBytes bytes
      → ((expandable_shape s).reads c bytes at end).outcome ≡ Ok v → (expandable_shape s).Fits c v
  expandable_stable valid c bytes at end v are read =
      let p = value_first (size_at bytes at) (λ q. reads_inside s c bytes at end q.0 q.1) v read in
      inside_stable valid c bytes at end p.0.0 p.0.1 v are (size_in_room bytes at p.0 p.1) p.2

  expandable_front : (c : Context) (bytes : List ℕ) (at end : ℕ) → at ≤ length bytes → length bytes < at + 1
      → ((expandable_shape s).reads c bytes at end).outcome ≡ Err End
  expandable_front c bytes at end le lt =
      first_faults errors.IoError (size_at bytes at) (λ q. reads_inside s c bytes at end q.0 q.1)
      (size_absent bytes at end le lt)

  pub expandable_laws : IsShape (expandable_shape s)
  expandable_laws = record {
    long = λ c v fits.
        omega (
          arith,
          length-append (size_bytes v.0 (s.size c v.1)) (s.bytes c v.1),
          size_long v.0 (s.size c v.1) fits.0 fits.1,
          is.long c v.1 fits.3,
        );
    back = expandable_back;
    stable = expandable_stable;
    front_first = expandable_front;
    fixed_size = λ h. absurd cc;
    fixed_reads = λ h. absurd cc;
  }
