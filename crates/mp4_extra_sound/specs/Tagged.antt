-- A descriptor (ISO/IEC 14496-1, 8.3.3): a tag, and a shape after it.
use Rattle.std.specs.Prelude.{ℕ, ◌+◌, ◌==◌, false, ◌++◌}
use Rattle.mp4_frame.specs.Bytes.{number, be_bytes}
use Rattle.mp4_frame.specs.Reading.{◌>>=◌, expect_bytes, check}
use Rattle.mp4_declared.specs.Shape.{Shape}

-- a byte, which is checked to be the tag k, and a shape
abbrev pub tagged_shape : {A : Type 0} → ℕ → Shape A → Shape A
tagged_shape k s = record {
  reads = λ c bytes at end.
      expect_bytes bytes at 1 >>= λ _. check (number bytes at 1 == k) >>= λ _. s.reads c bytes (at + 1) end;
  size = λ c v. 1 + s.size c v;
  Fits = λ c v. s.Fits c v;
  bytes = λ c v. be_bytes 1 k ++ s.bytes c v;
  front = λ c. 1;
  fixed = false;
  to_end = s.to_end;
  valid = s.valid;
}
