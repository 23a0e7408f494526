-- The rotation of a track's pictures, by the matrix of its header (ISO/IEC 14496-12, 6.2.2 and 8.3.2).
use Rattle.std.specs.Prelude.{ℕ, ◌==◌, ◌&&◌, Bool, None, Some, if◌then◌else◌}
use Rattle.std.specs.Int.{w32, cast_unsigned}
use Rattle.std.specs.declared.option.Option.{Option}
use Rattle.mp4_flat.specs.declared.matrix.Matrix.{Matrix}

-- 1 and -1 with 16 bits after the point, as the 32 bits that are in the file
abbrev pub one : ℕ
one = 0x10000

abbrev pub minus_one : ℕ
minus_one = 0xFFFF0000

-- four numbers are those of a turn
abbrev pub is_turn : ℕ → ℕ → ℕ → ℕ → ℕ → ℕ → ℕ → ℕ → Bool
is_turn a2 b2 c2 d2 a b c d = (a == a2) && ((b == b2) && ((c == c2) && (d == d2)))

-- The point (p, q) is mapped to (a p + c q, b p + d q), moved by any distance. The second coordinate counts downwards,
-- so (p, q) becomes (-q, p) in a turn of 90 degrees clockwise.
abbrev pub turn_of : ℕ → ℕ → ℕ → ℕ → Option ℕ
turn_of a b c d =
    if is_turn one 0 0 one a b c d then Some 0
    else if is_turn 0 one minus_one 0 a b c d then Some 90
    else if is_turn minus_one 0 0 minus_one a b c d then Some 180
    else if is_turn 0 minus_one one 0 a b c d then Some 270
    else None

-- degrees clockwise; none for a matrix that does something else
abbrev pub rotation_of : Matrix → Option ℕ
rotation_of m = turn_of (cast_unsigned w32 m.a) (cast_unsigned w32 m.b) (cast_unsigned w32 m.c) (cast_unsigned w32 m.d)
