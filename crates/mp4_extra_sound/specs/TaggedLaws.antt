-- The laws of a tag and the shape after it.
use Rattle.std.proofs.Common.{◌≡◌, ℕ, ◌+◌, ◌<◌, ◌≤◌, true, eqb, List, ◌++◌, length, Ok, refl, ap, subst, ◌∙◌}
use Rattle.std.proofs.Common.{append_assoc, length-append, arith}
use Rattle.std.proofs.lemmas.Bool.{eq-eqb}
use Rattle.mp4_frame.specs.Bytes.{number, be_bytes}
use Rattle.mp4_frame.specs.Laws.{AreBytes}
use Rattle.mp4_frame.specs.Reading.{◌>>=◌, check, expect_bytes}
use Rattle.mp4_frame.proofs.Checks.{check_ok, expect_bytes_present, expect_bytes_ok, past, past_check}
use Rattle.mp4_frame.proofs.Fields.{length-be_bytes}
use Rattle.mp4_declared.specs.declared.context.Context.{Context}
use Rattle.mp4_declared.specs.Shape.{Shape}
use Rattle.mp4_declared.specs.ShapeLaws.{IsShape, EndsIn, expect_bytes_absent, number_put, put_room}
use Rattle.mp4_extra_sound.specs.Tagged.{tagged_shape}

module _ {A : Type 0} (k : ℕ) (s : Shape A) (is : IsShape s) (small : k < 256) where
  tagged_back : s.valid ≡ true → (c : Context) (v : A) (x y : List ℕ) (end : ℕ) → s.Fits c v
      → EndsIn s.to_end (length x + (1 + s.size c v)) end
      → ((tagged_shape k s).reads c (x ++ ((be_bytes 1 k ++ s.bytes c v) ++ y)) (length x) end).outcome ≡ Ok v
  tagged_back valid c v x y end fits ends =
      let tag = be_bytes 1 k in
      let p = s.bytes c v in
      let o = length x in
      let bytes = x ++ ((tag ++ p) ++ y) in
      let by_tag : bytes ≡ x ++ (tag ++ (p ++ y)) = simp append_assoc in
      let by_rest : bytes ≡ (x ++ tag) ++ (p ++ y) = simp append_assoc in
      let wide = length-be_bytes 1 k in
      let at : o + 1 ≡ length (x ++ tag) = omega (arith, length-append x tag, wide) in
      let here : o + 1 ≤ length bytes = omega (arith, ap length by_tag, put_room x tag (p ++ y) 1 wide) in
      let known : number bytes o 1 ≡ k = ap (λ (bs : List ℕ). number bs o 1) by_tag
      ∙ number_put x (p ++ y) 1 k (omega (arith, small)) in
      let same : eqb (number bytes o 1) k ≡ true = eq-eqb (number bytes o 1) k known in
      let total : o + (1 + s.size c v) ≡ length (x ++ tag) + s.size c v = omega (arith, at) in
      let rest : (s.reads c bytes (o + 1) end).outcome ≡ Ok v =
      ap (λ (bs : List ℕ). (s.reads c bs (o + 1) end).outcome) by_rest
      ∙ (ap (λ (i : ℕ). (s.reads c ((x ++ tag) ++ (p ++ y)) i end).outcome) at
      ∙ is.back valid c v (x ++ tag) y end fits (subst (λ (i : ℕ). EndsIn s.to_end i end) total ends)) in
      past (expect_bytes bytes o 1) (λ _. check (eqb (number bytes o 1) k) >>= λ _. s.reads c bytes (o + 1) end)
      (expect_bytes_present bytes o 1 here)
      ∙ (past_check (eqb (number bytes o 1) k) (λ _. s.reads c bytes (o + 1) end) same ∙ rest)

  tagged_stable : s.valid ≡ true → (c : Context) (bytes : List ℕ) (at end : ℕ) (v : A) → AreBytes bytes
      → ((tagged_shape k s).reads c bytes at end).outcome ≡ Ok v → s.Fits c v
  tagged_stable valid c bytes at end v are read =
      let n = number bytes at 1 in
      let one = expect_bytes_ok bytes at 1 (λ _. check (eqb n k) >>= λ _. s.reads c bytes (at + 1) end) v read in
      let two = check_ok (eqb n k) (λ _. s.reads c bytes (at + 1) end) v one in
      is.stable valid c bytes (at + 1) end v are two.1

  pub tagged_laws : IsShape (tagged_shape k s)
  tagged_laws = record {
    long = λ c v fits.
        omega (arith, length-append (be_bytes 1 k) (s.bytes c v), length-be_bytes 1 k, is.long c v fits);
    back = tagged_back;
    stable = tagged_stable;
    front_first = λ c bytes at end le lt. rw (expect_bytes_absent bytes at 1 le lt) refl;
    fixed_size = λ h. absurd cc;
    fixed_reads = λ h. absurd cc;
  }
