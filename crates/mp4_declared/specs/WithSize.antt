-- A size of 4 bytes, which counts itself, and a shape that ends where the size says, as a box does.
use Rattle.std.specs.Prelude.{ℕ, ◌+◌, ◌<◌, ◌^◌, ◌==◌, ◌&&◌, false, nat_le, List, ◌++◌}
use Rattle.mp4_frame.specs.Bytes.{number, be_bytes}
use Rattle.mp4_frame.specs.Reading.{Reading, ◌>>=◌, done, expect_bytes, check}
use Rattle.mp4_declared.specs.declared.context.Context.{Context}
use Rattle.mp4_declared.specs.Shape.{Shape}

module _ {A : Type 0} (s : Shape A) where
  -- The value after the size n. The size is checked to end in the box. The value is checked to end where the size says,
  -- and a part of it that reaches to the end of a box reaches to there.
  unfoldable pub reads_sized : Context → ℕ → List ℕ → ℕ → ℕ → Reading A
  reads_sized c n bytes at end = do
    _ ← check (nat_le 4 n && nat_le (at + n) end)
    x ← s.reads c bytes (at + 4) (at + n)
    _ ← check (at + 4 + s.size c x == at + n)
    done x

  abbrev pub with_size_shape : Shape A
  with_size_shape = record {
    reads = λ c bytes at end. expect_bytes bytes at 4 >>= λ _. reads_sized c (number bytes at 4) bytes at end;
    size = λ c x. 4 + s.size c x;
    Fits = λ c x. s.Fits c x × (4 + s.size c x < 2 ^ 32);
    bytes = λ c x. be_bytes 4 (4 + s.size c x) ++ s.bytes c x;
    front = λ c. 4;
    fixed = false;
    to_end = false;
    valid = s.valid;
  }
