-- The laws of a tag and the shape that it decides.
use Rattle.std.proofs.Common.{◌≡◌, ℕ, ◌+◌, ◌<◌, ◌≤◌, ◌^◌, Bool, true, false, cond, eqb, ◌&&◌, ◌||◌, List, ◌++◌, length}
use Rattle.std.proofs.Common.{Ok, refl, sym, ap, subst, ◌∙◌, append_assoc, length-append, arith}
use Rattle.std.proofs.lemmas.Bool.{eq-eqb}
use Rattle.mp4_frame.specs.Bytes.{number, be_bytes}
use Rattle.mp4_frame.specs.Laws.{AreBytes}
use Rattle.mp4_frame.specs.Reading.{Reading, ◌>>=◌, done, expect_bytes}
use Rattle.mp4_frame.proofs.Checks.{expect_bytes_present, expect_bytes_ok, is_value}
use Rattle.mp4_frame.proofs.Decided.{outcome_bind}
use Rattle.mp4_frame.proofs.Fields.{length-be_bytes, number-below}
use Rattle.mp4_frame.proofs.Tables.{value_first}
use Rattle.mp4_declared.specs.declared.context.Context.{Context}
use Rattle.mp4_declared.specs.BitsLaws.{and_first, and_second}
use Rattle.mp4_declared.specs.Shape.{Shape}
use Rattle.mp4_declared.specs.ShapeLaws.{IsShape, EndsIn, ends_always, ends_within, expect_bytes_absent, put_room}
use Rattle.mp4_declared.specs.ShapeLaws.{number_put}
use Rattle.mp4_declared.specs.Typed.{size_typed, FitsTyped, bytes_typed, reads_after, typed_shape}
use Rattle.mp4_declared.specs.declared.typed.OfType.{OfType}
use Rattle.mp4_declared.specs.declared.typed.OfType.TheVariants as of_type

-- If one of two shapes reaches to the end, either may.
ends_first : (a b : Bool) (at end : ℕ) → EndsIn (a || b) at end → EndsIn a at end
ends_first true b at end is = is
ends_first false b at end is = ends_within b at end is

ends_second : (a b : Bool) (at end : ℕ) → EndsIn (a || b) at end → EndsIn b at end
ends_second true b at end is = ends_always b at end is
ends_second false b at end is = is

module _ {A B : Type 0} (k : ℕ) (s : Shape A) (t : Shape B) (of_s : IsShape s) (of_t : IsShape t)
    (small : k < 256 ^ 4) where
  abbrev shape : Shape (OfType A B)
  shape = typed_shape k s t

  -- Bytes that are written after a tag n, and read back after it, are read back together with it.
  back_after : (c : Context) (n : ℕ) (x p y : List ℕ) (end : ℕ) (v : OfType A B) → n < 256 ^ 4
      → (reads_after k s t c n ((x ++ be_bytes 4 n) ++ (p ++ y)) (length (x ++ be_bytes 4 n)) end).outcome ≡ Ok v
      → (shape.reads c (x ++ ((be_bytes 4 n ++ p) ++ y)) (length x) end).outcome ≡ Ok v
  back_after c n x p y end v fits after =
      let code = be_bytes 4 n in
      let bytes = x ++ ((code ++ p) ++ y) in
      let by_code : bytes ≡ x ++ (code ++ (p ++ y)) = simp append_assoc in
      let by_rest : bytes ≡ (x ++ code) ++ (p ++ y) = simp append_assoc in
      let wide = length-be_bytes 4 n in
      let at : length x + 4 ≡ length (x ++ code) = omega (arith, length-append x code, wide) in
      let here : length x + 4 ≤ length bytes = omega (arith, ap length by_code, put_room x code (p ++ y) 4 wide) in
      let is : number bytes (length x) 4 ≡ n = ap (λ (bs : List ℕ). number bs (length x) 4) by_code
      ∙ number_put x (p ++ y) 4 n fits in
      let rest : (reads_after k s t c n bytes (length x + 4) end).outcome ≡ Ok v =
      ap (λ (bs : List ℕ). (reads_after k s t c n bs (length x + 4) end).outcome) by_rest
      ∙ (ap (λ (o : ℕ). (reads_after k s t c n ((x ++ code) ++ (p ++ y)) o end).outcome) at ∙ after) in
      rw (expect_bytes_present bytes (length x) 4 here, is) rest

  typed_back : shape.valid ≡ true → (c : Context) (v : OfType A B) (x y : List ℕ) (end : ℕ) → FitsTyped k s t c v
      → EndsIn (s.to_end || t.to_end) (length x + size_typed k s t c v) end
      → (shape.reads c (x ++ (bytes_typed k s t c v ++ y)) (length x) end).outcome ≡ Ok v
  typed_back valid c (of_type.Own z) x y end fits ends =
      let front = x ++ be_bytes 4 k in
      let long : length x + (4 + s.size c z) ≡ length front + s.size c z =
      omega (arith, length-append x (be_bytes 4 k), length-be_bytes 4 k) in
      let e = ends_first s.to_end t.to_end (length front + s.size c z) end
      (subst (λ (o : ℕ). EndsIn (s.to_end || t.to_end) o end) long ends) in
      let own : eqb k k ≡ true = eq-eqb k k refl in
      back_after c k x (s.bytes c z) y end (of_type.Own z) small
      (rw own
      (outcome_bind (s.reads c (front ++ (s.bytes c z ++ y)) (length front) end) (λ u. done (of_type.Own u)) z
      (Ok (of_type.Own z)) (of_s.back (and_first s.valid t.valid valid) c z front y end fits e) refl))
  typed_back valid c (of_type.Other n z) x y end fits ends =
      let front = x ++ be_bytes 4 n in
      let long : length x + (4 + t.size c z) ≡ length front + t.size c z =
      omega (arith, length-append x (be_bytes 4 n), length-be_bytes 4 n) in
      let e = ends_second s.to_end t.to_end (length front + t.size c z) end
      (subst (λ (o : ℕ). EndsIn (s.to_end || t.to_end) o end) long ends) in
      let other = fits.1 in
      back_after c n x (t.bytes c z) y end (of_type.Other n z) fits.0
      (rw other
      (outcome_bind (t.reads c (front ++ (t.bytes c z ++ y)) (length front) end) (λ u. done (of_type.Other n u)) z
      (Ok (of_type.Other n z)) (of_t.back (and_second s.valid t.valid valid) c z front y end fits.2 e) refl))

  stable_after : shape.valid ≡ true → (c : Context) (n : ℕ) (bytes : List ℕ) (at end : ℕ) (v : OfType A B)
      → AreBytes bytes → n < 256 ^ 4 → (b : Bool) → eqb n k ≡ b
      → (cond b (s.reads c bytes at end >>= λ x. done (of_type.Own x))
      (t.reads c bytes at end >>= λ y. done (of_type.Other n y))).outcome ≡ Ok v → FitsTyped k s t c v
  stable_after valid c n bytes at end v are fits true is read =
      let p = value_first (s.reads c bytes at end) (λ x. done (of_type.Own x)) v read in
      let same : of_type.Own p.0 ≡ v = is_value (of_type.Own p.0) v p.2 in
      subst (λ (u : OfType A B). FitsTyped k s t c u) same
      (of_s.stable (and_first s.valid t.valid valid) c bytes at end p.0 are p.1)
  stable_after valid c n bytes at end v are fits false is read =
      let p = value_first (t.reads c bytes at end) (λ y. done (of_type.Other n y)) v read in
      let same : of_type.Other n p.0 ≡ v = is_value (of_type.Other n p.0) v p.2 in
      subst (λ (u : OfType A B). FitsTyped k s t c u) same
      (fits, is, of_t.stable (and_second s.valid t.valid valid) c bytes at end p.0 are p.1)

  typed_long : (c : Context) (v : OfType A B) → FitsTyped k s t c v
      → length (bytes_typed k s t c v) ≡ size_typed k s t c v
  typed_long c (of_type.Own x) fits =
      omega (arith, length-append (be_bytes 4 k) (s.bytes c x), length-be_bytes 4 k, of_s.long c x fits)
  typed_long c (of_type.Other n y) fits =
      omega (arith, length-append (be_bytes 4 n) (t.bytes c y), length-be_bytes 4 n, of_t.long c y fits.2)

  pub typed_laws : IsShape (typed_shape k s t)
  typed_laws = record {
    long = typed_long;
    back = typed_back;
    stable = λ valid c bytes at end v are read.
        let n = number bytes at 4 in
        let one = expect_bytes_ok bytes at 4 (λ _. reads_after k s t c n bytes (at + 4) end) v read in
        stable_after valid c n bytes (at + 4) end v are (number-below bytes at 4 are) (eqb n k) refl one;
    front_first = λ c bytes at end le lt. rw (expect_bytes_absent bytes at 4 le lt) refl;
    fixed_size = λ h. absurd cc;
    fixed_reads = λ h. absurd cc;
  }
