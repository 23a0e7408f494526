-- The laws of a shape, of numbers, and of two shapes one after the other.
use Rattle.std.proofs.Common.{◌≡◌, ℕ, ◌+◌, ◌<◌, ◌≤◌, ◌^◌, ◌-◌, Bool, true, false, not, ◌&&◌, cond, leb, ltb, List, ◌++◌}
use Rattle.std.proofs.Common.{length, Ok}
use Rattle.std.proofs.Common.{Err, refl, ap, subst, ◌∙◌, append_assoc, length-append, arith}
use Rattle.std.proofs.lemmas.Bool.{lt-ltb, leb-true, leb-false}
use Rattle.mp4_frame.specs.Bytes.{number, be_bytes}
use Rattle.mp4_frame.specs.Laws.{AreBytes}
use Rattle.mp4_frame.specs.Reading.{Reading, End, ◌>>=◌, done, faults, expect_bytes}
use Rattle.mp4_frame.specs.declared.error.Error.TheVariants as errors
use Rattle.mp4_frame.proofs.Checks.{expect_bytes_present, expect_bytes_ok, is_value}
use Rattle.mp4_frame.proofs.Decided.{first_faults, outcome_bind}
use Rattle.mp4_frame.proofs.Fields.{length-be_bytes, number-be_bytes, number-below}
use Rattle.mp4_frame.proofs.Numbers.{number-after}
use Rattle.mp4_frame.proofs.Tables.{value_first}
use Rattle.mp4_declared.specs.declared.context.Context.{Context}
use Rattle.mp4_declared.specs.BitsLaws.{and_first, and_second}
use Rattle.mp4_declared.specs.Shape.{Shape, number_shape, zeros_shape, pair_shape}

-- A value whose bytes end at `at` is in a box that ends at `end`. If its shape reaches to the end, the two are equal.
abbrev pub EndsIn : Bool → ℕ → ℕ → Type 0
EndsIn true at end = at ≡ end
EndsIn false at end = at ≤ end

-- The laws of a shape. The bytes of a value that fits are as many as its size says, and are read back among any others.
-- A value that is read fits. The front is checked first. A fixed shape is read wherever its front is present.
pub record IsShape {A : Type 0} (s : Shape A) : Type 0 where
  pub long : (c : Context) (v : A) → s.Fits c v → length (s.bytes c v) ≡ s.size c v
  pub back : s.valid ≡ true → (c : Context) (v : A) (x y : List ℕ) (end : ℕ) → s.Fits c v
      → EndsIn s.to_end (length x + s.size c v) end
      → (s.reads c (x ++ (s.bytes c v ++ y)) (length x) end).outcome ≡ Ok v
  pub stable : s.valid ≡ true → (c : Context) (bytes : List ℕ) (at end : ℕ) (v : A) → AreBytes bytes
      → (s.reads c bytes at end).outcome ≡ Ok v → s.Fits c v
  pub front_first : (c : Context) (bytes : List ℕ) (at end : ℕ) → at ≤ length bytes → length bytes < at + s.front c
      → (s.reads c bytes at end).outcome ≡ Err End
  pub fixed_size : s.fixed ≡ true → (c : Context) (v : A) → s.size c v ≡ s.front c
  pub fixed_reads : s.fixed ≡ true → (c : Context) (bytes : List ℕ) (at end : ℕ) → at + s.front c ≤ length bytes
      → (v : A) × (s.reads c bytes at end ≡ done v)

pub ends_bounded : (to_end : Bool) (at end : ℕ) → to_end ≡ false → at ≤ end → EndsIn to_end at end
ends_bounded true at end is le = absurd cc
ends_bounded false at end is le = le

-- a value that ends at the end of its box
pub ends_always : (to_end : Bool) (at end : ℕ) → at ≡ end → EndsIn to_end at end
ends_always true at end is = is
ends_always false at end is = omega arith

not_true : (b : Bool) → not b ≡ true → b ≡ false
not_true true h = absurd cc
not_true false h = refl

pub ends_within : (to_end : Bool) (at end : ℕ) → EndsIn to_end at end → at ≤ end
ends_within true at end is = omega arith
ends_within false at end le = le

pub expect_bytes_absent : (xs : List ℕ) (o w : ℕ) → o ≤ length xs → length xs < o + w → expect_bytes xs o w ≡ faults End
expect_bytes_absent xs o w le lt =
    let some : ltb 0 w ≡ true = lt-ltb 0 w (omega arith) in
    let over : ltb (length xs) (o + w) ≡ true = lt-ltb _ _ lt in
    rw (some, over) refl

-- Bytes that are put after others are present.
pub put_room : (x p y : List ℕ) (w : ℕ) → length p ≡ w → length x + w ≤ length (x ++ (p ++ y))
put_room x p y w is = omega (arith, length-append x (p ++ y), length-append p y, is)

-- the number that is read where a number was put after other bytes
pub number_put : (x y : List ℕ) (w n : ℕ) → n < 256 ^ w → number (x ++ (be_bytes w n ++ y)) (length x) w ≡ n
number_put x y w n fits =
    number-after x (be_bytes w n ++ y) (length x) (length x) w refl (omega arith)
    ∙ ap (λ (k : ℕ). number (be_bytes w n ++ y) k w) (let none : length x - length x ≡ 0 = omega arith in none)
    ∙ number-be_bytes w n y fits

pub number_laws : (width : Context → ℕ) → IsShape (number_shape width)
number_laws width = record {
  long = λ c v fits. length-be_bytes (width c) v;
  back = λ _ c v x y end fits ends.
      let room = put_room x (be_bytes (width c) v) y (width c) (length-be_bytes (width c) v) in
      rw (
        expect_bytes_present (x ++ (be_bytes (width c) v ++ y)) (length x) (width c) room,
        number_put x y (width c) v fits,
      ) refl;
  stable = λ _ c bytes at end v are read.
      let is = is_value (number bytes at (width c)) v
      (expect_bytes_ok bytes at (width c) (λ _. done (number bytes at (width c))) v read) in
      subst (λ (n : ℕ). n < 256 ^ width c) is (number-below bytes at (width c) are);
  front_first = λ c bytes at end le lt. rw (expect_bytes_absent bytes at (width c) le lt) refl;
  fixed_size = λ _ c v. refl;
  fixed_reads = λ _ c bytes at end room.
      (number bytes at (width c), rw (expect_bytes_present bytes at (width c) room) refl);
}

pub zeros_laws : (n : ℕ) → IsShape (zeros_shape n)
zeros_laws n = record {
  long = λ c v fits. length-be_bytes n 0;
  back = λ _ c v x y end fits ends.
      let room = put_room x (be_bytes n 0) y n (length-be_bytes n 0) in
      rw (expect_bytes_present (x ++ (be_bytes n 0 ++ y)) (length x) n room) refl;
  stable = λ _ c bytes at end v are read. tt;
  front_first = λ c bytes at end le lt. rw (expect_bytes_absent bytes at n le lt) refl;
  fixed_size = λ _ c v. refl;
  fixed_reads = λ _ c bytes at end room. (tt, expect_bytes_present bytes at n room);
}

module _ {A B : Type 0} (a : Shape A) (b : Shape B) (of_a : IsShape a) (of_b : IsShape b) where
  abbrev second : Context → List ℕ → ℕ → ℕ → A → Reading (A × B)
  second c bytes at end x = b.reads c bytes (at + a.size c x) end >>= λ y. done (x, y)

  pair_back : (pair_shape a b).valid ≡ true → (c : Context) (v : A × B) (x y : List ℕ) (end : ℕ)
      → (pair_shape a b).Fits c v
      → EndsIn b.to_end (length x + (a.size c v.0 + b.size c v.1)) end
      → ((pair_shape a b).reads c (x ++ ((a.bytes c v.0 ++ b.bytes c v.1) ++ y)) (length x) end).outcome ≡ Ok v
  pair_back valid c v x y end fits ends =
      let first_valid = and_first a.valid (not a.to_end && b.valid) valid in
      let rest_valid = and_second a.valid (not a.to_end && b.valid) valid in
      let bounded = not_true a.to_end (and_first (not a.to_end) b.valid rest_valid) in
      let second_valid = and_second (not a.to_end) b.valid rest_valid in
      let p = a.bytes c v.0 in
      let q = b.bytes c v.1 in
      let bytes = x ++ ((p ++ q) ++ y) in
      let by_first : bytes ≡ x ++ (p ++ (q ++ y)) = simp append_assoc in
      let by_second : bytes ≡ (x ++ p) ++ (q ++ y) = simp append_assoc in
      let within = ends_within b.to_end (length x + (a.size c v.0 + b.size c v.1)) end ends in
      let at : length x + a.size c v.0 ≡ length (x ++ p) =
      omega (arith, length-append x p, of_a.long c v.0 fits.0) in
      let total : length x + (a.size c v.0 + b.size c v.1) ≡ length (x ++ p) + b.size c v.1 = omega (arith, at) in
      let one : (a.reads c bytes (length x) end).outcome ≡ Ok v.0 =
      ap (λ (bs : List ℕ). (a.reads c bs (length x) end).outcome) by_first
      ∙ of_a.back first_valid c v.0 x (q ++ y) end fits.0
      (ends_bounded a.to_end (length x + a.size c v.0) end bounded (omega (arith, within))) in
      let two : (b.reads c bytes (length x + a.size c v.0) end).outcome ≡ Ok v.1 =
      ap (λ (bs : List ℕ). (b.reads c bs (length x + a.size c v.0) end).outcome) by_second
      ∙ ap (λ (k : ℕ). (b.reads c ((x ++ p) ++ (q ++ y)) k end).outcome) at
      ∙ of_b.back second_valid c v.1 (x ++ p) y end fits.1 (subst (λ (k : ℕ). EndsIn b.to_end k end) total ends) in
      outcome_bind (a.reads c bytes (length x) end) (second c bytes (length x) end) v.0 (Ok v) one
      (outcome_bind (b.reads c bytes (length x + a.size c v.0) end) (λ z. done (v.0, z)) v.1 (Ok v) two refl)

  pair_stable : (pair_shape a b).valid ≡ true → (c : Context) (bytes : List ℕ) (at end : ℕ) (v : A × B) → AreBytes bytes
      → ((pair_shape a b).reads c bytes at end).outcome ≡ Ok v → (pair_shape a b).Fits c v
  pair_stable valid c bytes at end v are read =
      let first_valid = and_first a.valid (not a.to_end && b.valid) valid in
      let rest_valid = and_second a.valid (not a.to_end && b.valid) valid in
      let second_valid = and_second (not a.to_end) b.valid rest_valid in
      let p = value_first (a.reads c bytes at end) (second c bytes at end) v read in
      let q = value_first (b.reads c bytes (at + a.size c p.0) end) (λ z. done (p.0, z)) v p.2 in
      let is : (p.0, q.0) ≡ v = is_value (p.0, q.0) v q.2 in
      subst (λ (u : A × B). a.Fits c u.0 × b.Fits c u.1) is (
        of_a.stable first_valid c bytes at end p.0 are p.1,
        of_b.stable second_valid c bytes (at + a.size c p.0) end q.0 are q.1,
      )

  pair_front : (c : Context) (bytes : List ℕ) (at end : ℕ) → at ≤ length bytes
      → length bytes < at + (pair_shape a b).front c → ((pair_shape a b).reads c bytes at end).outcome ≡ Err End
  pair_front c bytes at end le lt = by a.fixed refl lt
    where
      one : length bytes < at + a.front c → ((pair_shape a b).reads c bytes at end).outcome ≡ Err End
      one lt = first_faults errors.IoError (a.reads c bytes at end) (second c bytes at end)
          (of_a.front_first c bytes at end le lt)

      two : a.fixed ≡ true → at + a.front c ≤ length bytes → length bytes < at + (a.front c + b.front c)
          → ((pair_shape a b).reads c bytes at end).outcome ≡ Err End
      two is room lt =
          let p = of_a.fixed_reads is c bytes at end room in
          let size = of_a.fixed_size is c p.0 in
          let rest = of_b.front_first c bytes (at + a.size c p.0) end (omega (arith, size)) (omega (arith, size)) in
          outcome_bind (a.reads c bytes at end) (second c bytes at end) p.0 (Err End)
          (ap (λ (r : Reading A). r.outcome) p.1)
          (first_faults errors.IoError (b.reads c bytes (at + a.size c p.0) end) (λ z. done (p.0, z)) rest)

      choose : (t : Bool) → leb (at + a.front c) (length bytes) ≡ t → a.fixed ≡ true
          → length bytes < at + (a.front c + b.front c) → ((pair_shape a b).reads c bytes at end).outcome ≡ Err End
      choose true h is lt = two is (leb-true _ _ h) lt
      choose false h is lt = one (leb-false (at + a.front c) (length bytes) h)

      by : (f : Bool) → a.fixed ≡ f → length bytes < at + cond f (a.front c + b.front c) (a.front c)
          → ((pair_shape a b).reads c bytes at end).outcome ≡ Err End
      by true is lt = choose (leb (at + a.front c) (length bytes)) refl is lt
      by false is lt = one lt

  pair_size : (pair_shape a b).fixed ≡ true → (c : Context) (v : A × B)
      → (pair_shape a b).size c v ≡ (pair_shape a b).front c
  pair_size fixed c v =
      let one = and_first a.fixed b.fixed fixed in
      let p = of_a.fixed_size one c v.0 in
      let q = of_b.fixed_size (and_second a.fixed b.fixed fixed) c v.1 in
      rw one (omega (arith, p, q))

  pair_reads : (pair_shape a b).fixed ≡ true → (c : Context) (bytes : List ℕ) (at end : ℕ)
      → at + (pair_shape a b).front c ≤ length bytes
      → (v : A × B) × ((pair_shape a b).reads c bytes at end ≡ done v)
  pair_reads fixed c bytes at end room =
      let one = and_first a.fixed b.fixed fixed in
      let two = and_second a.fixed b.fixed fixed in
      let all : at + (a.front c + b.front c) ≤ length bytes =
      subst (λ (f : Bool). at + cond f (a.front c + b.front c) (a.front c) ≤ length bytes) one room in
      let p = of_a.fixed_reads one c bytes at end (omega (arith, all)) in
      let size = of_a.fixed_size one c p.0 in
      let q = of_b.fixed_reads two c bytes (at + a.size c p.0) end (omega (arith, all, size)) in (
        (p.0, q.0),
        ap (λ (r : Reading A). r >>= second c bytes at end) p.1 ∙ ap (λ (r : Reading B). r >>= λ z. done (p.0, z)) q.1,
      )

  pub pair_laws : IsShape (pair_shape a b)
  pair_laws = record {
    long = λ c v fits.
        let p = of_a.long c v.0 fits.0 in
        let q = of_b.long c v.1 fits.1 in
        omega (arith, length-append (a.bytes c v.0) (b.bytes c v.1), p, q);
    back = pair_back;
    stable = pair_stable;
    front_first = pair_front;
    fixed_size = pair_size;
    fixed_reads = pair_reads;
  }
