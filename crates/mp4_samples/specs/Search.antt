-- The number of elements of a list that are at most a limit. They are the first ones.
use Rattle.std.specs.Prelude.{ℕ, ◌<◌, ◌≤◌, List, length, slice_index}

pub record IsCountAtMost (xs : List ℕ) (limit n : ℕ) : Type 0 where
  pub within : n ≤ length xs
  pub low : (i : ℕ) → i < n → slice_index xs i ≤ limit
  pub high : (i : ℕ) → n ≤ i → i < length xs → limit < slice_index xs i
