-- The laws of a matrix.
use Rattle.std.proofs.Common.{◌≡◌, ℕ, ◌+◌, List, [], ◌∷◌}
use Rattle.std.specs.Int.{w32}
use Rattle.std.proofs.lemmas.Int.{to_z-of_z}
use Rattle.mp4_frame.specs.Bytes.{number}
use Rattle.mp4_frame.specs.Laws.{AreBytes}
use Rattle.mp4_frame.proofs.Fields.{found}
use Rattle.mp4_frame.proofs.Signed.{signed32}
use Rattle.mp4_frame.proofs.Framing.{Origin, Signed32}
use Rattle.mp4_flat.specs.Matrix.{matrix_at, fields_matrix, IsMatrix}
use Rattle.mp4_flat.specs.declared.matrix.Matrix.{Matrix}

-- a matrix that was written is read back
pub matrix_back : (m : Matrix) → IsMatrix m → matrix_at (found (fields_matrix m) []) 0 ≡ m
matrix_back m (a, (b, (u, (c, (d, (v, (x, (y, (w, z))))))))) = λ i. record {
  a = to_z-of_z w32 m.a a i;
  b = to_z-of_z w32 m.b b i;
  u = to_z-of_z w32 m.u u i;
  c = to_z-of_z w32 m.c c i;
  d = to_z-of_z w32 m.d d i;
  v = to_z-of_z w32 m.v v i;
  x = to_z-of_z w32 m.x x i;
  y = to_z-of_z w32 m.y y i;
  w = to_z-of_z w32 m.w w i;
}

-- the places of the numbers of a matrix at offset o
abbrev pub origins_matrix : ℕ → List Origin
origins_matrix o = Signed32 o ∷ Signed32 (o + 4) ∷ Signed32 (o + 8) ∷ Signed32 (o + 12) ∷ Signed32 (o + 16)
    ∷ Signed32 (o + 20) ∷ Signed32 (o + 24) ∷ Signed32 (o + 28) ∷ Signed32 (o + 32) ∷ []

-- the numbers of a matrix that was read fit their type
pub matrix_read : (bytes : List ℕ) (o : ℕ) → AreBytes bytes → IsMatrix (matrix_at (number bytes) o)
matrix_read bytes o are =
    let z = λ (k : ℕ). signed32 bytes k are in (
      z o,
      (
        z (o + 4),
        (
          z (o + 8),
          (z (o + 12), (z (o + 16), (z (o + 20), (z (o + 24), (z (o + 28), (z (o + 32), tt)))))),
        ),
      ),
    )
