-- The laws of a shape whose values are converted, one to one.
use Rattle.std.proofs.Common.{◌≡◌, ℕ, ◌+◌, ◌<◌, ◌≤◌, true, List, ◌++◌, length, Ok, Err, refl, sym, ap, subst, ◌∙◌}
use Rattle.mp4_frame.specs.Laws.{AreBytes}
use Rattle.mp4_frame.specs.Reading.{Reading, End, ◌>>=◌, done}
use Rattle.mp4_frame.specs.declared.error.Error.TheVariants as errors
use Rattle.mp4_frame.proofs.Checks.{is_value}
use Rattle.mp4_frame.proofs.Decided.{first_faults, outcome_bind}
use Rattle.mp4_frame.proofs.Tables.{value_first}
use Rattle.mp4_declared.specs.declared.context.Context.{Context}
use Rattle.mp4_declared.specs.Shape.{Shape, mapped_shape, last_shape, reserved_shape, pair_shape, zeros_shape}
use Rattle.mp4_declared.specs.ShapeLaws.{IsShape, EndsIn, pair_laws, zeros_laws}

module _ {A B : Type 0} (f : A → B) (g : B → A) (there : (x : A) → g (f x) ≡ x) (back : (v : B) → f (g v) ≡ v)
    (s : Shape A) (is : IsShape s) where
  mapped_back : s.valid ≡ true → (c : Context) (v : B) (x y : List ℕ) (end : ℕ) → s.Fits c (g v)
      → EndsIn s.to_end (length x + s.size c (g v)) end
      → ((mapped_shape f g s).reads c (x ++ (s.bytes c (g v) ++ y)) (length x) end).outcome ≡ Ok v
  mapped_back valid c v x y end fits ends =
      outcome_bind (s.reads c (x ++ (s.bytes c (g v) ++ y)) (length x) end) (λ z. done (f z)) (g v) (Ok (f (g v)))
      (is.back valid c (g v) x y end fits ends) refl
      ∙ ap (λ (u : B). Ok u) (back v)

  mapped_stable : s.valid ≡ true → (c : Context) (bytes : List ℕ) (at end : ℕ) (v : B) → AreBytes bytes
      → ((mapped_shape f g s).reads c bytes at end).outcome ≡ Ok v → s.Fits c (g v)
  mapped_stable valid c bytes at end v are read =
      let p = value_first (s.reads c bytes at end) (λ z. done (f z)) v read in
      let same : p.0 ≡ g v = sym (there p.0) ∙ ap g (is_value (f p.0) v p.2) in
      subst (λ (x : A). s.Fits c x) same (is.stable valid c bytes at end p.0 are p.1)

  mapped_front : (c : Context) (bytes : List ℕ) (at end : ℕ) → at ≤ length bytes → length bytes < at + s.front c
      → ((mapped_shape f g s).reads c bytes at end).outcome ≡ Err End
  mapped_front c bytes at end le lt =
      first_faults errors.IoError (s.reads c bytes at end) (λ z. done (f z)) (is.front_first c bytes at end le lt)

  pub mapped_laws : IsShape (mapped_shape f g s)
  mapped_laws = record {
    long = λ c v fits. is.long c (g v) fits;
    back = mapped_back;
    stable = mapped_stable;
    front_first = mapped_front;
    fixed_size = λ fixed c v. is.fixed_size fixed c (g v);
    fixed_reads = λ fixed c bytes at end room.
        let p = is.fixed_reads fixed c bytes at end room in
        (f p.0, ap (λ (r : Reading A). r >>= λ z. done (f z)) p.1);
  }

pub last_laws : {A : Type 0} (s : Shape A) → IsShape s → IsShape (last_shape s)
last_laws {A} s is = mapped_laws {A = A} {B = A × Unit {0}} (λ x. (x, tt)) (λ v. v.0) (λ x. refl) (λ v. refl) s is

pub reserved_laws : {A : Type 0} (n : ℕ) (s : Shape A) → IsShape s → IsShape (reserved_shape n s)
reserved_laws {A} n s is =
    mapped_laws {A = Unit {0} × A} {B = A} (λ v. v.1) (λ x. (tt, x)) (λ v. refl) (λ x. refl)
    (pair_shape (zeros_shape n) s) (pair_laws (zeros_shape n) s (zeros_laws n) is)
