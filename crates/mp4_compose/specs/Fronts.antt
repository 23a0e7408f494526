-- The front of a list of bytes.
use Rattle.std.proofs.Common.{ℕ, List, take, inl, inr, arith}
use Rattle.std.proofs.lemmas.Bool.{cases_lt}
use Rattle.std.proofs.lemmas.List.{get_or-take, get_or_past, length-take}
use Rattle.mp4_frame.specs.Laws.{AreBytes}

-- the front of a list of bytes is a list of bytes
pub are_bytes-take : (n : ℕ) (xs : List ℕ) → AreBytes xs → AreBytes (take n xs)
are_bytes-take n xs are i =
    elim (cases_lt i n) [
      | inl h ↦ rw (get_or-take n xs i 0 h) (are i)
      | inr h ↦ rw (get_or_past (take n xs) i 0 (omega (arith, length-take n xs))) (omega arith)
    ]
