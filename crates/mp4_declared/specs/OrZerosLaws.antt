-- The laws of a shape that is reserved bytes where it isn't present.
use Rattle.std.proofs.Common.{◌≡◌, ℕ, ◌+◌, ◌<◌, ◌≤◌, Bool, true, false, cond, List, ◌++◌, length, Ok, Err, refl, subst}
use Rattle.std.specs.Prelude.{Option, Some, None}
use Rattle.mp4_frame.specs.Bytes.{be_bytes}
use Rattle.mp4_frame.specs.Laws.{AreBytes}
use Rattle.mp4_frame.specs.Reading.{Reading, End, ◌>>=◌, done, expect_bytes}
use Rattle.mp4_frame.specs.declared.error.Error.TheVariants as errors
use Rattle.mp4_frame.proofs.Checks.{expect_bytes_present, expect_bytes_ok, is_value}
use Rattle.mp4_frame.proofs.Decided.{first_faults, outcome_bind}
use Rattle.mp4_frame.proofs.Fields.{length-be_bytes}
use Rattle.mp4_frame.proofs.Tables.{value_first}
use Rattle.mp4_declared.specs.OptionalShapes.{FitsIf}
use Rattle.mp4_declared.specs.Shape.{Shape}
use Rattle.mp4_declared.specs.ShapeLaws.{IsShape, EndsIn, expect_bytes_absent, put_room}
use Rattle.mp4_declared.specs.declared.context.Context.{Context}
use Rattle.mp4_declared.specs.OrZeros.{size_or, bytes_or, reads_or, or_zeros_shape}

module _ {A : Type 0} (is_present : Context → Bool) (s : Shape A) (n : ℕ) (is : IsShape s) where
  abbrev size : Context → Option A → ℕ
  size c v = size_or is_present s n c v

  abbrev bytes_of : Context → Option A → List ℕ
  bytes_of c v = bytes_or is_present s n c v

  abbrev reads : Context → Bool → List ℕ → ℕ → ℕ → Reading (Option A)
  reads c b bytes at end = reads_or is_present s n c b bytes at end

  long_or : (c : Context) (b : Bool) (v : Option A) → FitsIf s c b v → length (bytes_of c v) ≡ size c v
  long_or c b (Some x) fits = is.long c x fits.1
  long_or c b None fits = length-be_bytes n 0

  back_or : s.valid ≡ true → (c : Context) (b : Bool) (v : Option A) (x y : List ℕ) (end : ℕ) → FitsIf s c b v
      → EndsIn s.to_end (length x + size c v) end
      → (reads c b (x ++ (bytes_of c v ++ y)) (length x) end).outcome ≡ Ok v
  back_or valid c true (Some z) x y end fits ends =
      outcome_bind (s.reads c (x ++ (s.bytes c z ++ y)) (length x) end) (λ u. done (Some u)) z (Ok (Some z))
      (is.back valid c z x y end fits.1 ends) refl
  back_or valid c true None x y end fits ends = absurd cc
  back_or valid c false (Some z) x y end fits ends = let no = fits.0 in absurd cc
  back_or valid c false None x y end fits ends =
      let room = put_room x (be_bytes n 0) y n (length-be_bytes n 0) in
      rw (expect_bytes_present (x ++ (be_bytes n 0 ++ y)) (length x) n room) refl

  stable_or : s.valid ≡ true → (c : Context) (b : Bool) (bytes : List ℕ) (at end : ℕ) (v : Option A) → AreBytes bytes
      → (reads c b bytes at end).outcome ≡ Ok v → FitsIf s c b v
  stable_or valid c true bytes at end v are read =
      let p = value_first (s.reads c bytes at end) (λ u. done (Some u)) v read in
      let some : Some p.0 ≡ v = is_value (Some p.0) v p.2 in
      subst (λ (u : Option A). FitsIf s c true u) some (refl, is.stable valid c bytes at end p.0 are p.1)
  stable_or valid c false bytes at end v are read =
      let none : None ≡ v = is_value None v (expect_bytes_ok bytes at n (λ _. done None) v read) in
      subst (λ (u : Option A). FitsIf s c false u) none refl

  front_or : (c : Context) (b : Bool) (bytes : List ℕ) (at end : ℕ) → at ≤ length bytes
      → length bytes < at + cond b (s.front c) n → (reads c b bytes at end).outcome ≡ Err End
  front_or c true bytes at end le lt =
      first_faults errors.IoError (s.reads c bytes at end) (λ u. done (Some u)) (is.front_first c bytes at end le lt)
  front_or c false bytes at end le lt = rw (expect_bytes_absent bytes at n le lt) refl

  pub or_zeros_laws : IsShape (or_zeros_shape is_present s n)
  or_zeros_laws = record {
    long = λ c v fits. long_or c (is_present c) v fits;
    back = λ valid c v x y end fits ends. back_or valid c (is_present c) v x y end fits ends;
    stable = λ valid c bytes at end v are read. stable_or valid c (is_present c) bytes at end v are read;
    front_first = λ c bytes at end le lt. front_or c (is_present c) bytes at end le lt;
    fixed_size = λ h. absurd cc;
    fixed_reads = λ h. absurd cc;
  }
