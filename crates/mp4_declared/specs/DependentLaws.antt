-- The laws of a shape and another one whose context follows from the value of the first.
use Rattle.std.proofs.Common.{◌≡◌, ℕ, ◌+◌, ◌<◌, ◌≤◌, true, false, not, ◌&&◌, List, ◌++◌, length, Ok, Err, refl, ap}
use Rattle.std.proofs.Common.{subst, ◌∙◌, append_assoc, length-append, arith}
use Rattle.std.proofs.lemmas.Bool.{not-true}
use Rattle.mp4_frame.specs.Laws.{AreBytes}
use Rattle.mp4_frame.specs.Reading.{Reading, End, ◌>>=◌, done}
use Rattle.mp4_frame.specs.declared.error.Error.TheVariants as errors
use Rattle.mp4_frame.proofs.Checks.{is_value}
use Rattle.mp4_frame.proofs.Decided.{first_faults, outcome_bind}
use Rattle.mp4_frame.proofs.Tables.{value_first}
use Rattle.mp4_declared.specs.declared.context.Context.{Context}
use Rattle.mp4_declared.specs.BitsLaws.{and_first, and_second}
use Rattle.mp4_declared.specs.Shape.{Shape}
use Rattle.mp4_declared.specs.ShapeLaws.{IsShape, EndsIn, ends_bounded, ends_within}
use Rattle.mp4_declared.specs.Dependent.{dependent_shape}

module _ {A B : Type 0} (a : Shape A) (context : A → Context) (b : Shape B) (of_a : IsShape a) (of_b : IsShape b) where
  abbrev second : Context → List ℕ → ℕ → ℕ → A → Reading (A × B)
  second c bytes at end x = b.reads (context x) bytes (at + a.size c x) end >>= λ y. done (x, y)

  dependent_back : (dependent_shape a context b).valid ≡ true → (c : Context) (v : A × B) (x y : List ℕ) (end : ℕ)
      → (dependent_shape a context b).Fits c v
      → EndsIn b.to_end (length x + (a.size c v.0 + b.size (context v.0) v.1)) end
      → ((dependent_shape a context b).reads c (x ++ ((a.bytes c v.0 ++ b.bytes (context v.0) v.1) ++ y)) (length x)
      end).outcome ≡ Ok v
  dependent_back valid c v x y end fits ends =
      let here = context v.0 in
      let first_valid = and_first a.valid (not a.to_end && b.valid) valid in
      let rest_valid = and_second a.valid (not a.to_end && b.valid) valid in
      let bounded = not-true a.to_end (and_first (not a.to_end) b.valid rest_valid) in
      let second_valid = and_second (not a.to_end) b.valid rest_valid in
      let p = a.bytes c v.0 in
      let q = b.bytes here v.1 in
      let bytes = x ++ ((p ++ q) ++ y) in
      let by_first : bytes ≡ x ++ (p ++ (q ++ y)) = simp append_assoc in
      let by_second : bytes ≡ (x ++ p) ++ (q ++ y) = simp append_assoc in
      let within = ends_within b.to_end (length x + (a.size c v.0 + b.size here v.1)) end ends in
      let at : length x + a.size c v.0 ≡ length (x ++ p) =
      omega (arith, length-append x p, of_a.long c v.0 fits.0) in
      let total : length x + (a.size c v.0 + b.size here v.1) ≡ length (x ++ p) + b.size here v.1 =
      omega (arith, at) in
      let one : (a.reads c bytes (length x) end).outcome ≡ Ok v.0 =
      ap (λ (bs : List ℕ). (a.reads c bs (length x) end).outcome) by_first
      ∙ of_a.back first_valid c v.0 x (q ++ y) end fits.0
      (ends_bounded a.to_end (length x + a.size c v.0) end bounded (omega (arith, within))) in
      let two : (b.reads here bytes (length x + a.size c v.0) end).outcome ≡ Ok v.1 =
      ap (λ (bs : List ℕ). (b.reads here bs (length x + a.size c v.0) end).outcome) by_second
      ∙ ap (λ (k : ℕ). (b.reads here ((x ++ p) ++ (q ++ y)) k end).outcome) at
      ∙ of_b.back second_valid here v.1 (x ++ p) y end fits.1 (subst (λ (k : ℕ). EndsIn b.to_end k end) total ends) in
      outcome_bind (a.reads c bytes (length x) end) (second c bytes (length x) end) v.0 (Ok v) one
      (outcome_bind (b.reads here bytes (length x + a.size c v.0) end) (λ z. done (v.0, z)) v.1 (Ok v) two refl)

  dependent_stable : (dependent_shape a context b).valid ≡ true → (c : Context) (bytes : List ℕ) (at end : ℕ)
      (v : A × B) → AreBytes bytes → ((dependent_shape a context b).reads c bytes at end).outcome ≡ Ok v
      → (dependent_shape a context b).Fits c v
  dependent_stable valid c bytes at end v are read =
      let first_valid = and_first a.valid (not a.to_end && b.valid) valid in
      let rest_valid = and_second a.valid (not a.to_end && b.valid) valid in
      let second_valid = and_second (not a.to_end) b.valid rest_valid in
      let p = value_first (a.reads c bytes at end) (second c bytes at end) v read in
      let q = value_first (b.reads (context p.0) bytes (at + a.size c p.0) end) (λ z. done (p.0, z)) v p.2 in
      let is : (p.0, q.0) ≡ v = is_value (p.0, q.0) v q.2 in
      subst (λ (u : A × B). a.Fits c u.0 × b.Fits (context u.0) u.1) is (
        of_a.stable first_valid c bytes at end p.0 are p.1,
        of_b.stable second_valid (context p.0) bytes (at + a.size c p.0) end q.0 are q.1,
      )

  dependent_front : (c : Context) (bytes : List ℕ) (at end : ℕ) → at ≤ length bytes
      → length bytes < at + a.front c → ((dependent_shape a context b).reads c bytes at end).outcome ≡ Err End
  dependent_front c bytes at end le lt =
      first_faults errors.IoError (a.reads c bytes at end) (second c bytes at end)
      (of_a.front_first c bytes at end le lt)

  pub dependent_laws : IsShape (dependent_shape a context b)
  dependent_laws = record {
    long = λ c v fits.
        let p = of_a.long c v.0 fits.0 in
        let q = of_b.long (context v.0) v.1 fits.1 in
        omega (arith, length-append (a.bytes c v.0) (b.bytes (context v.0) v.1), p, q);
    back = dependent_back;
    stable = dependent_stable;
    front_first = dependent_front;
    fixed_size = λ h. absurd cc;
    fixed_reads = λ h. absurd cc;
  }
