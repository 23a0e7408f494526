-- The units of a sample, one after the other.
use Rattle.std.proofs.Common.{◌≡◌, ℕ, zero, suc, ◌-◌, ◌<◌, ◌≤◌, true, false, List, None, Some, refl, sym, ap}
use Rattle.std.proofs.Common.{◌∙◌, arith, subst}
use Rattle.std.specs.Prelude.{nat_lt, nat_le}
use Rattle.std.proofs.lemmas.Bool.{le-leb, le-ltb, lt-leb, lt-ltb}
use Rattle.mp4_check.specs.Units.{past_among, past_unit, unit_end}

-- the units that start at a position or later are among the next `most`
pub record LeftFrom (file : List ℕ) (w begin end at : ℕ) : Type 0 where
  pub most : ℕ
  pub enough : end - at ≤ most
  pub same : past_unit file w begin end ≡ past_among most file w end at

pub all_left : (file : List ℕ) (w begin end : ℕ) → LeftFrom file w begin end begin
all_left file w begin end = record { most = end - begin; enough = omega arith; same = refl }

module _ (file : List ℕ) (w end at : ℕ) where
  -- a unit that ends within the sample is passed
  next_among : (k : ℕ) → 1 ≤ w → at < end → end - at ≤ k → unit_end file w at ≤ end
      → (j : ℕ) × (end - unit_end file w at ≤ j)
      × (past_among k file w end at ≡ past_among j file w end (unit_end file w at))
  unfolding past_among
  next_among zero low inside enough fits = absurd (omega (arith, inside, enough))
  next_among (suc k) low inside enough fits =
      let more : nat_le end at ≡ false = lt-leb end at inside in
      let within : nat_lt end (unit_end file w at) ≡ false = le-ltb end (unit_end file w at) fits in
      (k, omega (arith, low, inside, enough), rw (more, within) refl)

  -- a unit that ends after the sample is found
  past_at : (k : ℕ) → at < end → end - at ≤ k → end < unit_end file w at → past_among k file w end at ≡ Some at
  unfolding past_among
  past_at zero inside enough past = absurd (omega (arith, inside, enough))
  past_at (suc k) inside enough past =
      let more : nat_le end at ≡ false = lt-leb end at inside in
      let after : nat_lt end (unit_end file w at) ≡ true = lt-ltb end (unit_end file w at) past in
      rw (more, after) refl

  -- no unit is left at the end
  none_at : (k : ℕ) → end ≤ at → past_among k file w end at ≡ None
  unfolding past_among
  none_at zero done = refl
  none_at (suc k) done = let over : nat_le end at ≡ true = le-leb end at done in rw over refl

pub unit_passed : (file : List ℕ) (w begin end at next : ℕ) → 1 ≤ w → at < end → next ≡ unit_end file w at → next ≤ end
    → LeftFrom file w begin end at → LeftFrom file w begin end next
unit_passed file w begin end at next low inside is fits h =
    let passed = next_among file w end at h.most low inside h.enough (subst (λ (n : ℕ). n ≤ end) is fits) in
    record {
      most = passed.0;
      enough = subst (λ (n : ℕ). end - n ≤ passed.0) (sym is) passed.1;
      same = h.same ∙ passed.2 ∙ ap (λ (o : ℕ). past_among passed.0 file w end o) (sym is);
    }

pub unit_past : (file : List ℕ) (w begin end at : ℕ) → at < end → end < unit_end file w at
    → LeftFrom file w begin end at → Some at ≡ past_unit file w begin end
unit_past file w begin end at inside past h = sym (h.same ∙ past_at file w end at h.most inside h.enough past)

pub none_past : (file : List ℕ) (w begin end at : ℕ) → end ≤ at → LeftFrom file w begin end at
    → None ≡ past_unit file w begin end
none_past file w begin end at done h = sym (h.same ∙ none_at file w end at h.most done)
