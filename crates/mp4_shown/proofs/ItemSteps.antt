-- An entry that is one number: the first one, and zeros for the others.
use Rattle.std.proofs.Common.{◌≡◌, ℕ, zero, suc, ◌<◌, ◌^◌, Bool, true, false, List, [], ◌∷◌, length, map, replicate}
use Rattle.std.proofs.Common.{set, get_or, slice_index, Result, Ok, refl, sym, ap, ◌∙◌, arith}
use Rattle.std.proofs.lemmas.Bool.Decides.{nat_tests}
use Rattle.std.proofs.lemmas.Nat.{pow_pos}
use Rattle.std.specs.Prelude.{◌==◌, nat_lt}
use Rattle.json.specs.Json.{Json}
use Rattle.mp4_shown.specs.Numbers.{NumberName}
use Rattle.mp4_shown.specs.TakenLists.{item_numbers}
use Rattle.mp4_shown.specs.TakenNumbers.{at_path}
use Rattle.mp4_shown.specs.TakenValues.{number_in}
use Rattle.mp4_shown.specs.Taking.{expect, ◌>>=◌}
use Rattle.mp4_shown.specs.declared.taken.error.Reason.{Reason}
use Rattle.mp4_shown.specs.declared.taken.error.Reason.TheVariants.{OutOfRange}

pub none_from : (n : ℕ) → (n == 0) ≡ true → n ≡ 0
none_from n is = grind (arith, nat_tests)

pub some_from : (n : ℕ) → (n == 0) ≡ false → 0 < n
some_from n is = grind (arith, nat_tests)

zeros : (ws : List ℕ) → map {B = ℕ} (λ _. 0) ws ≡ replicate (length ws) 0
zeros [] = refl
zeros (w ∷ ws) = ap (λ (l : List ℕ). 0 ∷ l) (zeros ws)

zero_at : (n k : ℕ) → slice_index (replicate n 0) k ≡ 0
zero_at zero k = refl
zero_at (suc n) zero = refl
zero_at (suc n) (suc k) = zero_at n k

-- zeros fit any widths
pub zeros_fit : (n : ℕ) (ws : List ℕ) (k : ℕ) → slice_index (replicate n 0) k < 2 ^ slice_index ws k
zeros_fit n ws k = omega (arith, zero_at n k, pow_pos (slice_index ws k))

module _ {A : Type 0} (f : A → NumberName) where
  -- no name is there
  pub nameless_item : (xs : List A) (ws : List ℕ) (j : Json) → length xs ≡ 0
      → item_numbers (map f xs) ws j ≡ Ok (replicate (length ws) 0)
  nameless_item [] [] j none = refl
  nameless_item [] (w ∷ ws) j none = ap (λ (l : List ℕ). Ok (0 ∷ l)) (zeros ws)
  nameless_item (x ∷ xs) ws j none = absurd (omega (arith, none))

  -- no number is there
  pub empty_item : (xs : List A) (ws : List ℕ) (j : Json) → length ws ≡ 0
      → item_numbers (map f xs) ws j ≡ Ok (replicate (length ws) 0)
  empty_item xs [] j none = refl
  empty_item xs (w ∷ ws) j none = absurd (omega (arith, none))

  first_item : (xs : List A) (ws : List ℕ) (j : Json) (d : A) → 0 < length xs → 0 < length ws
      → item_numbers (map f xs) ws j ≡ (at_path [] (number_in (f (get_or xs 0 d)).1 j) >>= λ n.
      expect (nat_lt n (2 ^ slice_index ws 0)) [] OutOfRange >>= λ _. Ok (set (replicate (length ws) 0) 0 n))
  first_item [] ws j d some wide = absurd (omega (arith, some))
  first_item (x ∷ xs) [] j d some wide = absurd (omega (arith, wide))
  first_item (x ∷ xs) (w ∷ ws) j d some wide =
      ap (λ (l : List ℕ). at_path [] (number_in (f x).1 j) >>= λ n.
      expect (nat_lt n (2 ^ w)) [] OutOfRange >>= λ _. Ok (n ∷ l)) (zeros ws)

  -- the first number
  pub one_item : (xs : List A) (ws : List ℕ) (j : Json) (d : A) (n : ℕ) → 0 < length xs → 0 < length ws
      → Ok n ≡ number_in (f (get_or xs 0 d)).1 j → nat_lt n (2 ^ slice_index ws 0) ≡ true
      → item_numbers (map f xs) ws j ≡ Ok (set (replicate (length ws) 0) 0 n)
  one_item xs ws j d n some wide is fits =
      first_item xs ws j d some wide
      ∙ ap (λ (r : Result ℕ Reason). at_path [] r >>= λ m.
      expect (nat_lt m (2 ^ slice_index ws 0)) [] OutOfRange >>= λ _. Ok (set (replicate (length ws) 0) 0 m)) (sym is)
      ∙ ap (λ (b : Bool). expect b [] OutOfRange >>= λ _. Ok (set (replicate (length ws) 0) 0 n)) fits
