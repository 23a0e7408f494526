-- The place of a meaning in a list.
use Rattle.std.specs.Prelude.{ℕ, ◌==◌, Bool, List}
use denote.Bor.{Bor}

-- this is the meaning of n
abbrev pub means : ℕ → ℕ × Bor (List ℕ) → Bool
means n m = m.0 == n
