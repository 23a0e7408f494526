-- The nine signed numbers of a matrix (ISO/IEC 14496-12, 6.2.2), 4 bytes each: a, b, u, c, d, v, x, y and w.
use Rattle.std.specs.Prelude.{ℕ, ◌+◌, ℤ, pos, FitsSigned, List, [], ◌∷◌, map}
use Rattle.std.specs.Int.{w32, cast_signed, cast_unsigned}
use Rattle.mp4_flat.specs.declared.matrix.Matrix.{Matrix}

-- the matrix at offset o, where `n o w` is the number of w bytes at offset o
abbrev pub matrix_at : (ℕ → ℕ → ℕ) → ℕ → Matrix
matrix_at n o = record {
  a = cast_signed w32 (n o 4);
  b = cast_signed w32 (n (o + 4) 4);
  u = cast_signed w32 (n (o + 8) 4);
  c = cast_signed w32 (n (o + 12) 4);
  d = cast_signed w32 (n (o + 16) 4);
  v = cast_signed w32 (n (o + 20) 4);
  x = cast_signed w32 (n (o + 24) 4);
  y = cast_signed w32 (n (o + 28) 4);
  w = cast_signed w32 (n (o + 32) 4);
}

abbrev pub numbers_matrix : Matrix → List ℤ
numbers_matrix m = m.a ∷ m.b ∷ m.u ∷ m.c ∷ m.d ∷ m.v ∷ m.x ∷ m.y ∷ m.w ∷ []

abbrev pub fields_matrix : Matrix → List (ℕ × ℕ)
fields_matrix m = map (λ z. (4, cast_unsigned w32 z)) (numbers_matrix m)

-- each number fits 32 bits, sign included
abbrev pub AreSigned : List ℤ → Type 0
AreSigned [] = Unit {0}
AreSigned (z ∷ zs) = FitsSigned w32 z × AreSigned zs

abbrev pub IsMatrix : Matrix → Type 0
IsMatrix m = AreSigned (numbers_matrix m)

-- the identity, which maps each point to itself
abbrev pub unity : Matrix
unity = record {
  a = pos 0x10000;
  b = pos 0;
  u = pos 0;
  c = pos 0;
  d = pos 0x10000;
  v = pos 0;
  x = pos 0;
  y = pos 0;
  w = pos 0x40000000;
}
