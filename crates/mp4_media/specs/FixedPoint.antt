-- Fixed-point numbers: the raw number is the value times a denominator.
use Rattle.std.specs.Prelude.{ℕ, ◌*◌, ◌/◌, ℤ, pos, ◌*ℤ◌, int_div}

-- the raw number of a whole number, for the denominator d
abbrev pub scaled : ℕ → ℕ → ℕ
scaled d value = d * value

-- the whole part of a raw number
abbrev pub whole : ℕ → ℕ → ℕ
whole d raw = raw / d

-- the raw number of a signed whole number
abbrev pub scaled_signed : ℕ → ℤ → ℤ
scaled_signed d value = pos d *ℤ value

-- the value of a signed raw number, rounded towards zero
abbrev pub whole_signed : ℕ → ℤ → ℤ
whole_signed d raw = int_div raw (pos d)
