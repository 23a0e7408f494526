-- The laws of optional fields, which are read back as they were written.
use Rattle.std.proofs.Common.{◌≡◌, ℕ, ◌-◌, ◌≤◌, Bool, true, false, List, ◌++◌, length, Option, Some, None, refl, ap}
use Rattle.std.proofs.Common.{◌∙◌, arith}
use Rattle.mp4_frame.specs.Bytes.{number, be_bytes}
use Rattle.mp4_frame.specs.Laws.{AreBytes}
use Rattle.mp4_frame.proofs.Fields.{length-be_bytes, number-be_bytes, number-below}
use Rattle.mp4_frame.proofs.Numbers.{number-after}
use Rattle.mp4_tables.specs.Flagged.{width_if, number_if, optional, IsPresent}

pub width_most : (b : Bool) (w : ℕ) → width_if b w ≤ w
unfolding width_if
width_most true w = omega arith
width_most false w = omega arith

pub length_some : (w n : ℕ) → length (be_bytes w n) ≡ w
length_some w n = length-be_bytes w n

pub length_optional : (b : Bool) (w : ℕ) (x : Option ℕ) → IsPresent b w x → length (optional w x) ≡ width_if b w
unfolding width_if optional
length_optional true w (Some n) h = length-be_bytes w n
length_optional false w (Some n) h = absurd cc
length_optional true w None h = absurd cc
length_optional false w None h = refl

first_back : (b : Bool) (w : ℕ) (x : Option ℕ) (rest : List ℕ) → IsPresent b w x
    → number_if (number (optional w x ++ rest)) b 0 w ≡ x
unfolding number_if optional
first_back true w (Some n) rest h = ap (λ (m : ℕ). Some m) (number-be_bytes w n rest h.1)
first_back false w (Some n) rest h = absurd cc
first_back true w None rest h = absurd cc
first_back false w None rest h = refl

number_if_after : (p q : List ℕ) (b : Bool) (o w : ℕ) → length p ≡ o
    → number_if (number (p ++ q)) b o w ≡ number_if (number q) b 0 w
unfolding number_if
number_if_after p q true o w at =
    let same : o ≤ o = omega arith in
    let none : o - o ≡ 0 = omega arith in
    ap (λ (m : ℕ). Some m) (number-after p q o o w at same ∙ ap (λ (k : ℕ). number q k w) none)
number_if_after p q false o w at = refl

-- a field that was written among other bytes is read back
pub optional_back : (bytes p : List ℕ) (x : Option ℕ) (rest : List ℕ) (b : Bool) (o w : ℕ)
    → bytes ≡ p ++ (optional w x ++ rest) → length p ≡ o → IsPresent b w x → number_if (number bytes) b o w ≡ x
optional_back bytes p x rest b o w is at h =
    ap (λ (l : List ℕ). number_if (number l) b o w) is ∙ number_if_after p (optional w x ++ rest) b o w at
    ∙ first_back b w x rest h

-- a field that was read is present if and only if its flag is set, and its number fits
pub number_is_present : (bytes : List ℕ) (b : Bool) (o w : ℕ) → AreBytes bytes
    → IsPresent b w (number_if (number bytes) b o w)
unfolding number_if
number_is_present bytes true o w are = (refl, number-below bytes o w are)
number_is_present bytes false o w are = refl
