-- The laws of strings.
use Rattle.std.proofs.Common.{◌≡◌, ℕ, suc, ◌+◌, ◌-◌, ◌<◌, ◌≤◌, ◌^◌, Bool, true, false, cond, ltb, ◌||◌, List, [], ◌∷◌}
use Rattle.std.proofs.Common.{◌++◌, length, take, drop, Ok, refl, ap, subst, ◌∙◌, append_assoc, length-append, arith}
use Rattle.std.proofs.lemmas.Bool.{or_parts, lt-ltb, ltb-true}
use Rattle.std.proofs.lemmas.List.{drop_at, take_at, length-take, length-drop}
use Rattle.std.specs.List.{list_any, position_or_len}
use Rattle.std.specs.Prelude.{not}
use Rattle.mp4_frame.specs.Bytes.{number, be_bytes}
use Rattle.mp4_frame.specs.Reading.{Reading, ◌>>=◌, done, expect_bytes, check, memory}
use Rattle.mp4_frame.proofs.Checks.{expect_bytes_present, expect_bytes_ok, expect_bytes_room, check_ok, is_value}
use Rattle.mp4_frame.proofs.Fields.{length-be_bytes, number-below}
use Rattle.mp4_frame.proofs.Tables.{value_first}
use Rattle.mp4_declared.specs.ShapeLaws.{IsShape, expect_bytes_absent, put_room, number_put}
use Rattle.mp4_declared.specs.Strings.{is_zero, before_zero, terminated, terminated_shape, pascal_shape}

-- A byte of 0 after bytes other than 0 is the first one.
zero_after : (v y : List ℕ) → list_any is_zero v ≡ false → position_or_len is_zero (v ++ 0 ∷ y) ≡ length v
zero_after [] y none = refl
zero_after (b ∷ v) y none =
    let p = or_parts (is_zero b) (list_any is_zero v) none in
    let later : position_or_len is_zero (v ++ 0 ∷ y) ≡ length v = zero_after v y p.1 in
    ap (λ (z : Bool). cond (not z) (1 + position_or_len is_zero (v ++ 0 ∷ y)) 0) p.0
    ∙ (let n : 1 + position_or_len is_zero (v ++ 0 ∷ y) ≡ length (b ∷ v) = omega (arith, later) in n)

none_by : (b n : ℕ) (xs : List ℕ) (z : Bool) → is_zero b ≡ z → list_any is_zero (take n xs) ≡ false
    → list_any is_zero (take (cond (not z) (1 + n) 0) (b ∷ xs)) ≡ false
none_by b n xs true is later = refl
none_by b n xs false is later =
    let next : 1 + n ≡ suc n = omega arith in
    rw next (ap (λ (z : Bool). z || list_any is_zero (take n xs)) is ∙ later)

-- There is no byte of 0 before the first one.
none_before : (xs : List ℕ) → list_any is_zero (take (position_or_len is_zero xs) xs) ≡ false
none_before [] = refl
none_before (b ∷ xs) = none_by b (position_or_len is_zero xs) xs (is_zero b) refl (none_before xs)

terminated_back : (x v y : List ℕ) (end : ℕ) → list_any is_zero v ≡ false → length x + (length v + 1) ≤ end
    → (terminated (x ++ ((v ++ 0 ∷ []) ++ y)) (length x) end).outcome ≡ Ok v
unfolding terminated
terminated_back x v y end none room =
    let o = length x in
    let bytes = x ++ (v ++ 0 ∷ y) in
    let by_text : x ++ ((v ++ 0 ∷ []) ++ y) ≡ bytes = simp append_assoc in
    let here : drop o bytes ≡ v ++ 0 ∷ y = drop_at x (v ++ 0 ∷ y) o refl in
    let long : before_zero bytes o ≡ length v =
    ap (λ (l : List ℕ). position_or_len is_zero l) here ∙ zero_after v y none in
    let text : take (length v) (drop o bytes) ≡ v = ap (take (length v)) here ∙ take_at v (0 ∷ y) (length v) refl in
    let enough : ltb (length v) (end - o) ≡ true = lt-ltb (length v) (end - o) (omega (arith, room)) in
    let present : o + (length v + 1) ≤ length bytes =
    omega (arith, length-append x (v ++ 0 ∷ y), length-append v (0 ∷ y)) in
    ap (λ (bs : List ℕ). (terminated bs o end).outcome) by_text
    ∙ rw (long, enough, expect_bytes_present bytes o (length v + 1) present, text) refl

terminated_stable : (bytes : List ℕ) (at end : ℕ) (v : List ℕ) → (terminated bytes at end).outcome ≡ Ok v
    → list_any is_zero v ≡ false
unfolding terminated
terminated_stable bytes at end v read =
    let n = before_zero bytes at in
    let text = take n (drop at bytes) in
    let one = check_ok (ltb n (end - at)) (λ _. expect_bytes bytes at (n + 1) >>= λ _. done text) v read in
    let is : text ≡ v = is_value text v (expect_bytes_ok bytes at (n + 1) (λ _. done text) v one.1) in
    subst (λ (l : List ℕ). list_any is_zero l ≡ false) is (none_before (drop at bytes))

pub terminated_laws : IsShape terminated_shape
terminated_laws = record {
  long = λ c v fits. length-append v (0 ∷ []);
  back = λ _ c v x y end fits ends. rw (terminated_back x v y end fits ends) refl;
  stable = λ _ c bytes at end v are read.
      let p = value_first (terminated bytes at end) (λ text. memory >>= λ _. done text) v read in
      subst (λ (l : List ℕ). list_any is_zero l ≡ false) (is_value p.0 v p.2) (terminated_stable bytes at end p.0 p.1);
  front_first = λ c bytes at end le lt. absurd (omega arith);
  fixed_size = λ h. absurd cc;
  fixed_reads = λ h. absurd cc;
}

pascal_long : (n : ℕ) (v : List ℕ) → length v < n
    → length (be_bytes 1 (length v) ++ (v ++ be_bytes (n - 1 - length v) 0)) ≡ n
pascal_long n v short =
    let count = be_bytes 1 (length v) in
    let zeros = be_bytes (n - 1 - length v) 0 in
    omega (
      arith,
      length-append count (v ++ zeros),
      length-append v zeros,
      length-be_bytes 1 (length v),
      length-be_bytes (n - 1 - length v) 0,
    )

pub pascal_laws : (n : ℕ) → IsShape (pascal_shape n)
pascal_laws n = record {
  long = λ c v fits. pascal_long n v fits.0;
  back = λ _ c v x y end fits ends.
      let k = length v in
      let o = length x in
      let count = be_bytes 1 k in
      let zeros = be_bytes (n - 1 - k) 0 in
      let bytes = x ++ ((count ++ (v ++ zeros)) ++ y) in
      let by_count : bytes ≡ x ++ (count ++ ((v ++ zeros) ++ y)) = simp append_assoc in
      let by_text : bytes ≡ (x ++ count) ++ (v ++ (zeros ++ y)) = simp append_assoc in
      let room : o + n ≤ length bytes = put_room x (count ++ (v ++ zeros)) y n (pascal_long n v fits.0) in
      let is : number bytes o 1 ≡ k = ap (λ (bs : List ℕ). number bs o 1) by_count
      ∙ number_put x ((v ++ zeros) ++ y) 1 k (let small = fits.1 in omega arith) in
      let at : length (x ++ count) ≡ o + 1 = omega (arith, length-append x count, length-be_bytes 1 k) in
      let text : take k (drop (o + 1) bytes) ≡ v = ap (λ (bs : List ℕ). take k (drop (o + 1) bs)) by_text
      ∙ ap (take k) (drop_at (x ++ count) (v ++ (zeros ++ y)) (o + 1) at) ∙ take_at v (zeros ++ y) k refl in
      let known : ltb k n ≡ true = lt-ltb k n fits.0 in
      rw (expect_bytes_present bytes o n room, is, known, text) refl;
  stable = λ valid c bytes at end v are read.
      let k = number bytes at 1 in
      let text = take k (drop (at + 1) bytes) in
      let last : Reading (List ℕ) = memory >>= λ _. done text in
      let p = value_first (expect_bytes bytes at n) (λ _. check (ltb k n) >>= λ _. last) v read in
      let one = check_ok (ltb k n) (λ _. last) v p.2 in
      let is : text ≡ v = is_value text v one.1 in
      let short : k < n = ltb-true k n one.0 in
      let room = expect_bytes_room bytes at n (omega (arith, short)) p.1 in
      let long : length text ≡ k = simp (length-take, length-drop) (omega (arith, room, short)) in
      let byte : k < 2 ^ 8 = let b = number-below bytes at 1 are in omega arith in
      subst (λ (l : List ℕ). (length l < n) × (length l < 2 ^ 8)) is (rw long (short, byte));
  front_first = λ c bytes at end le lt. rw (expect_bytes_absent bytes at n le lt) refl;
  fixed_size = λ h. absurd cc;
  fixed_reads = λ h. absurd cc;
}
