-- The last sample of a track that meets a bound.
use Rattle.std.proofs.Common.{◌≡◌, ℕ, ◌+◌, ◌<◌, ◌≤◌, inl, inr, None, Some, sym, subst, below_more, arith}
use Rattle.std.specs.declared.option.Option.{Option}
use Rattle.mp4_samples.specs.declared.sample.Sample.{Sample}
use Rattle.mp4_remux.specs.declared.parts.bound.Bound.{Bound}
use Rattle.mp4_remux.specs.declared.parts.bound.Line.{Line}
use Rattle.mp4_remux.specs.declared.parts.last.Place.{Place}
use Rattle.mp4_remux.specs.Parts.{IsLater, LastOf, Meets}

module _ {T : Type 0} (is : T → ℕ → Sample → Type 0) (t : T) (l : Line) (b : Bound) where
  module _ (one : (k : ℕ) (x y : Sample) → is t k x → is t k y → x ≡ y) where
    -- no sample of this number meets the bound
    none_here : (n : ℕ) (s : Sample) → is t n s → ¬ Meets l b s → (x : Sample) → is t n x → ¬ Meets l b x
    none_here n s is_s not x is_x = λ meets. not (subst (Meets l b) (one n x s is_x is_s) meets)

    still : (n : ℕ) (s : Sample) (r : Option Place) → is t n s → ¬ Meets l b s → LastOf is t l b n r
        → LastOf is t l b (n + 1) r
    still n s None is_s not old = λ k x lt is_x.
        below_more (λ (j : ℕ). (y : Sample) → is t j y → ¬ Meets l b y) n (λ j less y is_y. old j y less is_y)
        (none_here n s is_s not) k lt x is_x
    still n s (Some p) is_s not old =
        let less = old.0 in (
          omega (arith, less),
          old.1,
          old.2,
          λ k x more lt is_x.
              below_more (λ (j : ℕ). (y : Sample) → p.number < j → is t j y → ¬ Meets l b y) n
              (λ j under y over is_y. old.3 j y over under is_y) (λ y over is_y. none_here n s is_s not y is_y) k lt x
              more is_x,
        )

    -- a sample more
    pub last_more : (n : ℕ) (s : Sample) (old new : Option Place) → is t n s → IsLater l b n s old new
        → LastOf is t l b n old → LastOf is t l b (n + 1) new
    last_more n s old new is_s later last =
        elim later [
          | inl here ↦
              let found : LastOf is t l b (n + 1) (Some (record { number = n; sample = s })) = (
                omega arith,
                is_s,
                here.0,
                λ k x more lt is_x. absurd (omega (arith, more, lt)),
              ) in
              subst (LastOf is t l b (n + 1)) (sym here.1) found
          | inr there ↦ subst (LastOf is t l b (n + 1)) (sym there.1) (still n s old is_s there.0 last)
        ]

  -- no sample yet
  pub last_of_none : LastOf is t l b 0 None
  last_of_none = λ k x lt is_x. absurd (omega (arith, lt))

  -- all samples
  pub last_of_all : (n m : ℕ) (r : Option Place) → n ≤ m → m ≤ n → LastOf is t l b n r → LastOf is t l b m r
  last_of_all n m r le ge last =
      let same : n ≡ m = omega (arith, le, ge) in
      subst (λ (k : ℕ). LastOf is t l b k r) same last
