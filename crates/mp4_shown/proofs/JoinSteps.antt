-- Numbers that are joined one after the other: those already joined, and those that are left.
use Rattle.std.proofs.Common.{◌≡◌, ℕ, suc, ◌+◌, ◌*◌, ◌^◌, ◌<◌, ◌≤◌, List, [], ◌∷◌, length, drop, slice_index}
use Rattle.std.proofs.Common.{min, refl, ap, subst, arith}
use Rattle.std.proofs.lemmas.List.{drop_all, drop_more}
use Rattle.std.proofs.lemmas.Nat.{mul-le, pow-add, pow_pos}
use Rattle.mp4_declared.specs.Bits.{NumbersFit, bits, joined}
use Rattle.mp4_declared.specs.BitsLaws.{joined-lt}
use Rattle.mp4_shown.proofs.DigitSteps.{more_powers}

-- the first k numbers are joined to j
pub record AreJoined (ws ns : List ℕ) (k j : ℕ) : Type 0 where
  pub fit : NumbersFit (drop k ws) (drop k ns)
  pub left : bits (drop k ws) ≤ 64
  pub told : j * 2 ^ bits (drop k ws) + joined (drop k ws) (drop k ns) ≡ joined ws ns
  pub small : joined ws ns < 2 ^ 64

pub none_joined : (ws ns : List ℕ) → NumbersFit ws ns → bits ws ≤ 64 → AreJoined ws ns 0 0
none_joined ws ns fit left =
    let more = more_powers 2 (bits ws) 64 (omega arith) left in
    let below = joined-lt ws ns fit in
    record { fit = fit; left = left; told = omega arith; small = omega (arith, more, below) }

-- the next number, and those after it
record NextIs (ws ns : List ℕ) (k j w n : ℕ) : Type 0 where
  fit : NumbersFit (w ∷ drop (k + 1) ws) (n ∷ drop (k + 1) ns)
  left : w + bits (drop (k + 1) ws) ≤ 64
  told : j * 2 ^ (w + bits (drop (k + 1) ws))
      + (n * 2 ^ bits (drop (k + 1) ws) + joined (drop (k + 1) ws) (drop (k + 1) ns)) ≡ joined ws ns
  small : joined ws ns < 2 ^ 64

next_is : (ws ns : List ℕ) (k j : ℕ) → k < length ws → k < length ns → AreJoined ws ns k j
    → NextIs ws ns k j (slice_index ws k) (slice_index ns k)
next_is ws ns k j wide named are =
    let width : drop k ws ≡ slice_index ws k ∷ drop (k + 1) ws = drop_more ws k 0 wide in
    let number : drop k ns ≡ slice_index ns k ∷ drop (k + 1) ns = drop_more ns k 0 named in
    record {
      fit = subst (λ (l : List ℕ). NumbersFit (slice_index ws k ∷ drop (k + 1) ws) l) number
          (subst (λ (l : List ℕ). NumbersFit l (drop k ns)) width are.fit);
      left = subst (λ (l : List ℕ). bits l ≤ 64) width are.left;
      told = subst
          (λ (l : List ℕ). j * 2 ^ bits (slice_index ws k ∷ drop (k + 1) ws)
          + joined (slice_index ws k ∷ drop (k + 1) ws) l ≡ joined ws ns) number
          (subst (λ (l : List ℕ). j * 2 ^ bits l + joined l (drop k ns) ≡ joined ws ns) width are.told);
      small = are.small;
    }

-- the number after one more is joined
with_next : (j w n b r whole : ℕ) → j * 2 ^ (w + b) + (n * 2 ^ b + r) ≡ whole
    → (j * 2 ^ w + n) * 2 ^ b + r ≡ whole
with_next j w n b r whole told =
    let apart : j * 2 ^ (w + b) ≡ j * (2 ^ w * 2 ^ b) = ap (λ (x : ℕ). j * x) (pow-add 2 w b) in
    omega (arith, told, apart)

front_small : (x b r whole : ℕ) → x * 2 ^ b + r ≡ whole → x ≤ whole
front_small x b r whole told =
    let some : 1 ≤ 2 ^ b = omega (arith, pow_pos b) in
    let more : x * 1 ≤ x * 2 ^ b = mul-le x 1 x (2 ^ b) (omega arith) some in
    omega (arith, told, more)

pub one_joined : (ws ns : List ℕ) (k j : ℕ) → k < length ws → k < length ns → AreJoined ws ns k j
    → AreJoined ws ns (k + 1) (j * 2 ^ slice_index ws k + slice_index ns k)
one_joined ws ns k j wide named are =
    let next = next_is ws ns k j wide named are in record {
      fit = next.fit.1;
      left = omega (arith, next.left);
      told = with_next j (slice_index ws k) (slice_index ns k) (bits (drop (k + 1) ws))
          (joined (drop (k + 1) ws) (drop (k + 1) ns)) (joined ws ns) next.told;
      small = next.small;
    }

-- the width of the next number, and the number after it
pub width_small : (ws ns : List ℕ) (k j : ℕ) → k < length ws → k < length ns → AreJoined ws ns k j
    → slice_index ws k ≤ 64
width_small ws ns k j wide named are = omega (arith, (next_is ws ns k j wide named are).left)

pub joined_small : (ws ns : List ℕ) (k j : ℕ) → k < length ws → k < length ns → AreJoined ws ns k j
    → j * 2 ^ slice_index ws k + slice_index ns k < 2 ^ 64
joined_small ws ns k j wide named are =
    let next = one_joined ws ns k j wide named are in
    let front = front_small (j * 2 ^ slice_index ws k + slice_index ns k) (bits (drop (k + 1) ws))
    (joined (drop (k + 1) ws) (drop (k + 1) ns)) (joined ws ns) next.told in
    omega (arith, front, are.small)

same_length : (ws ns : List ℕ) → NumbersFit ws ns → length ws ≡ length ns
same_length [] [] fit = refl
same_length [] (n ∷ ns) fit = absurd fit
same_length (w ∷ ws) [] fit = absurd fit
same_length (w ∷ ws) (n ∷ ns) fit = ap suc (same_length ws ns fit.1)

-- all numbers are joined
pub all_joined : (ws ns : List ℕ) (k j : ℕ) → NumbersFit ws ns → min (length ws) (length ns) ≤ k → AreJoined ws ns k j
    → j ≡ joined ws ns
all_joined ws ns k j fit end are =
    let long = same_length ws ns fit in
    let none : drop k ws ≡ [] = drop_all k ws (omega (arith, long, end)) in
    let told : j * 2 ^ 0 + joined [] (drop k ns) ≡ joined ws ns =
    subst (λ (l : List ℕ). j * 2 ^ bits l + joined l (drop k ns) ≡ joined ws ns) none are.told in
    omega (arith, told)
