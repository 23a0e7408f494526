-- The part of a fixed-point number after the point.
use Rattle.std.proofs.Common.{ℕ, ◌%◌, ◌<◌, mod-lt}

pub rest_below : (n one : ℕ) → 0 < one → n % one < one
rest_below n one positive = mod-lt n {m = one} positive
