-- Entries that each have a shape, and may differ in length, one after the other.
use Rattle.std.specs.Prelude.{ℕ, zero, suc, ◌+◌, ◌<◌, ◌^◌, ◌&&◌, Bool, true, false, not, List, [], ◌∷◌, ◌++◌, All}
use Rattle.std.specs.Prelude.{if◌then◌else◌, length, flat_map}
use Rattle.std.specs.List.{sum_by}
use Rattle.mp4_frame.specs.Bytes.{number, be_bytes}
use Rattle.mp4_frame.specs.Reading.{Reading, ◌>>=◌, done, expect_bytes, memory}
use Rattle.mp4_declared.specs.declared.context.Context.{Context}
use Rattle.mp4_declared.specs.Shape.{Shape}

-- The entries at an offset, n at most, as long as more of them follow. Memory is asked for after each entry.
unfoldable pub one_by_one : {X : Type 0} → (ℕ → Bool) → (ℕ → Reading X) → (X → ℕ) → ℕ → ℕ → Reading (List X)
one_by_one follow reads size zero at = done []
one_by_one follow reads size (suc n) at =
    if follow at then (do
      x ← reads at
      _ ← memory
      xs ← one_by_one follow reads size n (at + size x)
      done (x ∷ xs)) else done []

-- the n entries at an offset
abbrev pub counted : {X : Type 0} → Shape X → Context → List ℕ → ℕ → ℕ → ℕ → Reading (List X)
counted s c bytes end n at = one_by_one (λ _. true) (λ o. s.reads c bytes o end) (s.size c) n at

-- a count of `width` bytes, and that many entries
abbrev pub each_shape : {X : Type 0} → ℕ → Shape X → Shape (List X)
each_shape width s = record {
  reads = λ c bytes at end.
      expect_bytes bytes at width >>= λ _. counted s c bytes end (number bytes at width) (at + width);
  size = λ c xs. width + sum_by (s.size c) xs;
  Fits = λ c xs. (length xs < 256 ^ width) × All (s.Fits c) xs;
  bytes = λ c xs. be_bytes width (length xs) ++ flat_map (s.bytes c) xs;
  front = λ c. width;
  fixed = false;
  to_end = false;
  valid = s.valid && not s.to_end;
}
