-- The laws of a size and the shape that ends where it says.
use Rattle.std.proofs.Common.{◌≡◌, ℕ, ◌+◌, ◌<◌, ◌≤◌, ◌^◌, ◌&&◌, true, eqb, leb, List, ◌++◌, length}
use Rattle.std.proofs.Common.{Ok, refl, ap, subst, ◌∙◌, append_assoc, length-append, arith}
use Rattle.std.proofs.lemmas.Bool.{le-leb, eq-eqb, eqb-true}
use Rattle.mp4_frame.specs.Bytes.{number, be_bytes}
use Rattle.mp4_frame.specs.Laws.{AreBytes}
use Rattle.mp4_frame.specs.Reading.{Reading, ◌>>=◌, done, check, expect_bytes}
use Rattle.mp4_frame.proofs.Checks.{check_ok, expect_bytes_present, expect_bytes_ok, is_value, past, past_check}
use Rattle.mp4_frame.proofs.Decided.{outcome_bind}
use Rattle.mp4_frame.proofs.Fields.{length-be_bytes, number-below}
use Rattle.mp4_frame.proofs.Tables.{value_first}
use Rattle.mp4_declared.specs.declared.context.Context.{Context}
use Rattle.mp4_declared.specs.Shape.{Shape}
use Rattle.mp4_declared.specs.ShapeLaws.{IsShape, ends_always, expect_bytes_absent, number_put, put_room}
use Rattle.mp4_declared.specs.WithSize.{reads_sized, with_size_shape}

module _ {A : Type 0} (s : Shape A) (is : IsShape s) where
  -- a check that the value ends where the size n says
  abbrev ends : Context → ℕ → ℕ → A → Reading A
  ends c at n x = check (eqb (at + 4 + s.size c x) (at + n)) >>= λ _. done x

  -- A value that is written after its size is read back.
  sized_back : s.valid ≡ true → (c : Context) (v : A) (x y : List ℕ) (end : ℕ) → s.Fits c v
      → 4 + s.size c v < 2 ^ 32 → length x + (4 + s.size c v) ≤ end
      → ((with_size_shape s).reads c (x ++ ((be_bytes 4 (4 + s.size c v) ++ s.bytes c v) ++ y)) (length x) end).outcome
      ≡ Ok v
  unfolding reads_sized
  sized_back valid c v x y end fits small inside =
      let size = be_bytes 4 (4 + s.size c v) in
      let p = s.bytes c v in
      let at = length x in
      let bytes = x ++ ((size ++ p) ++ y) in
      let by_size : bytes ≡ x ++ (size ++ (p ++ y)) = simp append_assoc in
      let by_rest : bytes ≡ (x ++ size) ++ (p ++ y) = simp append_assoc in
      let wide = length-be_bytes 4 (4 + s.size c v) in
      let after : at + 4 ≡ length (x ++ size) = omega (arith, length-append x size, wide) in
      let room : at + 4 ≤ length bytes = omega (arith, ap length by_size, put_room x size (p ++ y) 4 wide) in
      let n = number bytes at 4 in
      let is_size : n ≡ 4 + s.size c v = ap (λ (bs : List ℕ). number bs at 4) by_size
      ∙ number_put x (p ++ y) 4 (4 + s.size c v) small in
      let to : length (x ++ size) + s.size c v ≡ at + n = omega (arith, after, is_size) in
      let read : (s.reads c bytes (at + 4) (at + n)).outcome ≡ Ok v =
      ap (λ (bs : List ℕ). (s.reads c bs (at + 4) (at + n)).outcome) by_rest
      ∙ (ap (λ (o : ℕ). (s.reads c ((x ++ size) ++ (p ++ y)) o (at + n)).outcome) after
      ∙ is.back valid c v (x ++ size) y (at + n) fits
      (ends_always s.to_end (length (x ++ size) + s.size c v) (at + n) to)) in
      let least : leb 4 n ≡ true = le-leb 4 n (omega (arith, is_size)) in
      let most : leb (at + n) end ≡ true = le-leb (at + n) end (omega (arith, is_size, inside)) in
      let both : (leb 4 n && leb (at + n) end) ≡ true = rw (least, most) refl in
      let whole : eqb (at + 4 + s.size c v) (at + n) ≡ true =
      eq-eqb (at + 4 + s.size c v) (at + n) (omega (arith, is_size)) in
      past (expect_bytes bytes at 4) (λ _. reads_sized s c n bytes at end) (expect_bytes_present bytes at 4 room)
      ∙ (past_check (leb 4 n && leb (at + n) end) (λ _. s.reads c bytes (at + 4) (at + n) >>= ends c at n) both
      ∙ outcome_bind (s.reads c bytes (at + 4) (at + n)) (ends c at n) v (Ok v) read
      (past_check (eqb (at + 4 + s.size c v) (at + n)) (λ _. done v) whole))

  sized_stable : s.valid ≡ true → (c : Context) (bytes : List ℕ) (at end : ℕ) (v : A) → AreBytes bytes
      → ((with_size_shape s).reads c bytes at end).outcome ≡ Ok v → s.Fits c v × (4 + s.size c v < 2 ^ 32)
  unfolding reads_sized
  sized_stable valid c bytes at end v are read =
      let n = number bytes at 4 in
      let one = expect_bytes_ok bytes at 4 (λ _. reads_sized s c n bytes at end) v read in
      let two = check_ok (leb 4 n && leb (at + n) end)
      (λ _. s.reads c bytes (at + 4) (at + n) >>= ends c at n) v one in
      let p = value_first (s.reads c bytes (at + 4) (at + n)) (ends c at n) v two.1 in
      let q = check_ok (eqb (at + 4 + s.size c p.0) (at + n)) (λ _. done p.0) v p.2 in
      let whole = eqb-true (at + 4 + s.size c p.0) (at + n) q.0 in
      let small : 4 + s.size c p.0 < 2 ^ 32 = omega (arith, whole, number-below bytes at 4 are) in
      subst (λ (x : A). s.Fits c x × (4 + s.size c x < 2 ^ 32)) (is_value p.0 v q.1)
      (is.stable valid c bytes (at + 4) (at + n) p.0 are p.1, small)

  pub with_size_laws : IsShape (with_size_shape s)
  with_size_laws = record {
    long = λ c v fits.
        omega (
          arith,
          length-append (be_bytes 4 (4 + s.size c v)) (s.bytes c v),
          length-be_bytes 4 (4 + s.size c v),
          is.long c v fits.0,
        );
    back = λ valid c v x y end fits inside. sized_back valid c v x y end fits.0 fits.1 inside;
    stable = sized_stable;
    front_first = λ c bytes at end le lt. rw (expect_bytes_absent bytes at 4 le lt) refl;
    fixed_size = λ h. absurd cc;
    fixed_reads = λ h. absurd cc;
  }
