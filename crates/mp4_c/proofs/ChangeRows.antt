-- The rows of changes, one at a time, and chunks of four bytes.
use Rattle.std.proofs.Common.{◌≡◌, ℕ, ◌+◌, ◌*◌, ◌/◌, ◌%◌, ◌<◌, ◌≤◌, zero, suc, List, ◌∷◌, [], ◌++◌, length, take}
use Rattle.std.proofs.Common.{drop, get_or, sym, ap, subst, ◌∙◌, arith}
use Rattle.std.proofs.Math.Seq.{take-add}
use Rattle.std.proofs.lemmas.List.{take_all, take_more}
use Rattle.std.specs.List.{AllZip, flat_map}
use Rattle.std.specs.Simd.{first_chunks}
use Rattle.mp4_remux.proofs.Splicing.{zip_push}

-- One row more has its change.
pub zip_more : {X Y : Type 0} (R : X → Y → Type 0) (xs : List X) (ys zs : List Y) (i : ℕ) (d : X) (y : Y)
    → i < length xs → AllZip R (take i xs) ys → R (get_or xs i d) y → zs ≡ ys ++ y ∷ []
    → AllZip R (take (i + 1) xs) zs
zip_more {X} {Y} R xs ys zs i d y within so_far here is =
    subst (λ (l : List X). AllZip R l zs) (sym (take_more xs i d within))
    (subst (λ (l : List Y). AllZip R (take i xs ++ get_or xs i d ∷ []) l) (sym is)
    (zip_push R (take i xs) ys (get_or xs i d) y so_far here))

-- the chunks of n bytes, one after the other
chunks : (n k : ℕ) (bytes : List ℕ) → flat_map (λ value. value) (first_chunks n k bytes) ≡ take (k * n) bytes
chunks n zero bytes =
    let none : 0 ≡ 0 * n = omega arith in
    ap (λ (m : ℕ). take m bytes) none
chunks n (suc k) bytes =
    let more : n + k * n ≡ suc k * n = omega arith in
    ap (λ (bs : List ℕ). take n bytes ++ bs) (chunks n k (drop n bytes)) ∙ sym (take-add n (k * n) bytes)
    ∙ ap (λ (m : ℕ). take m bytes) more

-- All bytes are in chunks of four.
pub chunks_of_four : (bytes : List ℕ) (values : List (List ℕ)) → values ≡ first_chunks 4 (length bytes / 4) bytes
    → length bytes % 4 ≡ 0 → flat_map (λ value. value) values ≡ bytes
chunks_of_four bytes values are none =
    let whole : length bytes ≤ length bytes / 4 * 4 = omega (arith, none) in
    ap (λ (vs : List (List ℕ)). flat_map (λ value. value) vs) are ∙ chunks 4 (length bytes / 4) bytes
    ∙ take_all (length bytes / 4 * 4) bytes whole
