-- The first and the last of some numbers fit their widths, if all do.
use Rattle.std.proofs.Common.{◌≡◌, ℕ, zero, suc, ◌<◌, ◌^◌, List, [], ◌∷◌, length, take, drop, slice_index, arith}
use Rattle.mp4_declared.specs.Bits.{NumbersFit}

pub front_fits : (n : ℕ) (ws ns : List ℕ) → length ns ≡ length ws
    → ((k : ℕ) → slice_index ns k < 2 ^ slice_index ws k) → NumbersFit (take n ws) (take n ns)
front_fits zero ws ns long each = tt
front_fits (suc n) [] [] long each = tt
front_fits (suc n) [] (x ∷ ns) long each = absurd (omega (arith, long))
front_fits (suc n) (w ∷ ws) [] long each = absurd (omega (arith, long))
front_fits (suc n) (w ∷ ws) (x ∷ ns) long each =
    (each 0, front_fits n ws ns (omega (arith, long)) (λ k. each (suc k)))

-- `m` numbers after the first `n`
pub part_fits : (n m : ℕ) (ws ns : List ℕ) → length ns ≡ length ws
    → ((k : ℕ) → slice_index ns k < 2 ^ slice_index ws k) → NumbersFit (take m (drop n ws)) (take m (drop n ns))
part_fits zero m ws ns long each = front_fits m ws ns long each
part_fits (suc n) m [] [] long each = front_fits m [] [] long each
part_fits (suc n) m [] (x ∷ ns) long each = absurd (omega (arith, long))
part_fits (suc n) m (w ∷ ws) [] long each = absurd (omega (arith, long))
part_fits (suc n) m (w ∷ ws) (x ∷ ns) long each = part_fits n m ws ns (omega (arith, long)) (λ k. each (suc k))
