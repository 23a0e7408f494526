-- The laws of version, flags, and a shape after them.
use Rattle.std.proofs.Common.{◌≡◌, ℕ, ◌+◌, ◌<◌, ◌≤◌, ◌^◌, true, ltb, List, ◌++◌, length, Ok, refl, ap}
use Rattle.std.proofs.Common.{subst, ◌∙◌, append_assoc, length-append, arith}
use Rattle.std.proofs.lemmas.Bool.{lt-ltb, ltb-true}
use Rattle.mp4_frame.specs.Bytes.{number, be_bytes}
use Rattle.mp4_frame.specs.Laws.{AreBytes}
use Rattle.mp4_frame.specs.Reading.{Reading, ◌>>=◌, done, check}
use Rattle.mp4_frame.proofs.Checks.{expect_bytes_present, expect_bytes_ok, check_ok, is_value}
use Rattle.mp4_frame.proofs.Decided.{outcome_bind}
use Rattle.mp4_frame.proofs.Fields.{length-be_bytes, number-below}
use Rattle.mp4_frame.proofs.Tables.{value_first}
use Rattle.mp4_declared.specs.declared.context.Context.{Context}
use Rattle.mp4_declared.specs.Shape.{Shape, full_shape}
use Rattle.mp4_declared.specs.ShapeLaws.{IsShape, EndsIn, expect_bytes_absent, number_put}

module _ {A : Type 0} (n : ℕ) (s : Shape A) (is : IsShape s) where
  full_back : s.valid ≡ true → (c : Context) (v : ℕ × (ℕ × A)) (x y : List ℕ) (end : ℕ) → (full_shape n s).Fits c v
      → EndsIn s.to_end (length x + (full_shape n s).size c v) end
      → ((full_shape n s).reads c (x ++ ((full_shape n s).bytes c v ++ y)) (length x) end).outcome ≡ Ok v
  full_back valid c v x y end fits ends =
      let here : Context = record { version = v.0; flags = v.1.0 } in
      let p = be_bytes 1 v.0 in
      let q = be_bytes 3 v.1.0 in
      let r = s.bytes here v.1.1 in
      let o = length x in
      let bytes = x ++ (((p ++ q) ++ r) ++ y) in
      let by_version : bytes ≡ x ++ (p ++ (q ++ (r ++ y))) = simp append_assoc in
      let by_flags : bytes ≡ (x ++ p) ++ (q ++ (r ++ y)) = simp append_assoc in
      let by_rest : bytes ≡ (x ++ (p ++ q)) ++ (r ++ y) = simp append_assoc in
      let long1 = length-be_bytes 1 v.0 in
      let long3 = length-be_bytes 3 v.1.0 in
      let at1 : o + 1 ≡ length (x ++ p) = omega (arith, length-append x p, long1) in
      let at4 : o + 4 ≡ length (x ++ (p ++ q)) =
      omega (arith, length-append x (p ++ q), length-append p q, long1, long3) in
      let room : o + 4 ≤ length bytes =
      omega (arith, ap length by_rest, length-append (x ++ (p ++ q)) (r ++ y), at4) in
      let version : number bytes o 1 ≡ v.0 = ap (λ (bs : List ℕ). number bs o 1) by_version
      ∙ number_put x (q ++ (r ++ y)) 1 v.0 (let k = fits.1 in omega arith) in
      let flags : number bytes (o + 1) 3 ≡ v.1.0 = ap (λ (bs : List ℕ). number bs (o + 1) 3) by_flags
      ∙ ap (λ (k : ℕ). number ((x ++ p) ++ (q ++ (r ++ y))) k 3) at1
      ∙ number_put (x ++ p) (r ++ y) 3 v.1.0 (let k = fits.2 in omega arith) in
      let total : o + (4 + s.size here v.1.1) ≡ length (x ++ (p ++ q)) + s.size here v.1.1 = omega (arith, at4) in
      let rest : (s.reads here bytes (o + 4) end).outcome ≡ Ok v.1.1 =
      ap (λ (bs : List ℕ). (s.reads here bs (o + 4) end).outcome) by_rest
      ∙ ap (λ (k : ℕ). (s.reads here ((x ++ (p ++ q)) ++ (r ++ y)) k end).outcome) at4
      ∙ is.back valid here v.1.1 (x ++ (p ++ q)) y end fits.3
      (subst (λ (k : ℕ). EndsIn s.to_end k end) total ends) in
      let known : ltb v.0 n ≡ true = lt-ltb v.0 n fits.0 in
      let present = expect_bytes_present bytes o 4 room in
      let whole : (s.reads here bytes (o + 4) end >>= λ z. done (v.0, (v.1.0, z))).outcome ≡ Ok v =
      outcome_bind (s.reads here bytes (o + 4) end) (λ z. done (v.0, (v.1.0, z))) v.1.1 (Ok v) rest refl in
      rw (present, version, flags, known) whole

  full_stable : s.valid ≡ true → (c : Context) (bytes : List ℕ) (at end : ℕ) (v : ℕ × (ℕ × A)) → AreBytes bytes
      → ((full_shape n s).reads c bytes at end).outcome ≡ Ok v → (full_shape n s).Fits c v
  full_stable valid c bytes at end v are read =
      let version = number bytes at 1 in
      let flags = number bytes (at + 1) 3 in
      let here : Context = record { version = version; flags = flags } in
      let last : A → Reading (ℕ × (ℕ × A)) = λ z. done (version, (flags, z)) in
      let one = expect_bytes_ok bytes at 4
      (λ _. check (ltb version n) >>= λ _. s.reads here bytes (at + 4) end >>= last) v read in
      let two = check_ok (ltb version n) (λ _. s.reads here bytes (at + 4) end >>= last) v one in
      let p = value_first (s.reads here bytes (at + 4) end) last v two.1 in
      let is_read : (version, (flags, p.0)) ≡ v = is_value (version, (flags, p.0)) v p.2 in
      let byte : version < 2 ^ 8 = let k = number-below bytes at 1 are in omega arith in
      let three : flags < 2 ^ 24 = let k = number-below bytes (at + 1) 3 are in omega arith in
      subst (λ (u : ℕ × (ℕ × A)). (full_shape n s).Fits c u) is_read
      (ltb-true version n two.0, byte, three, is.stable valid here bytes (at + 4) end p.0 are p.1)

  pub full_laws : IsShape (full_shape n s)
  full_laws = record {
    long = λ c v fits.
        let here : Context = record { version = v.0; flags = v.1.0 } in
        omega (
          arith,
          length-append (be_bytes 1 v.0 ++ be_bytes 3 v.1.0) (s.bytes here v.1.1),
          length-append (be_bytes 1 v.0) (be_bytes 3 v.1.0),
          length-be_bytes 1 v.0,
          length-be_bytes 3 v.1.0,
          is.long here v.1.1 fits.3,
        );
    back = full_back;
    stable = full_stable;
    front_first = λ c bytes at end le lt. rw (expect_bytes_absent bytes at 4 le lt) refl;
    fixed_size = λ h. absurd cc;
    fixed_reads = λ h. absurd cc;
  }
