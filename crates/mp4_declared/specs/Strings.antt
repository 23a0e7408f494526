-- Strings, which end with a byte of 0, or begin with their length.
use Rattle.std.specs.Prelude.{◌≡◌, ℕ, ◌+◌, ◌-◌, ◌<◌, ◌^◌, ◌==◌, Bool, true, false, nat_lt, List, [], ◌∷◌, ◌++◌, length}
use Rattle.std.specs.Prelude.{take, drop}
use Rattle.std.specs.List.{list_any, position_or_len}
use Rattle.mp4_frame.specs.Bytes.{number, be_bytes}
use Rattle.mp4_frame.specs.Reading.{Reading, ◌>>=◌, done, expect_bytes, check, memory}
use Rattle.mp4_declared.specs.Shape.{Shape}

abbrev pub is_zero : ℕ → Bool
is_zero byte = byte == 0

-- the number of bytes between `at` and the first byte of 0, or of all bytes if there is none
abbrev pub before_zero : List ℕ → ℕ → ℕ
before_zero bytes at = position_or_len is_zero (drop at bytes)

-- the bytes before that byte of 0, after a check that the box has room for all of them
unfoldable pub terminated : List ℕ → ℕ → ℕ → Reading (List ℕ)
terminated bytes at end = do
  _ ← check (nat_lt (before_zero bytes at) (end - at))
  _ ← expect_bytes bytes at (before_zero bytes at + 1)
  done (take (before_zero bytes at) (drop at bytes))

-- bytes other than 0, and a byte of 0
abbrev pub terminated_shape : Shape (List ℕ)
terminated_shape = record {
  reads = λ c bytes at end. terminated bytes at end >>= λ text. memory >>= λ _. done text;
  size = λ c v. length v + 1;
  Fits = λ c v. list_any is_zero v ≡ false;
  bytes = λ c v. v ++ 0 ∷ [];
  front = λ c. 0;
  fixed = false;
  to_end = false;
  valid = true;
}

-- A field of n bytes: a count of 1 byte, that many bytes, and padding, which is written as 0 and read as any. The count
-- is checked to fit the field.
abbrev pub pascal_shape : ℕ → Shape (List ℕ)
pascal_shape n = record {
  reads = λ c bytes at end.
      expect_bytes bytes at n >>= λ _. check (nat_lt (number bytes at 1) n) >>= λ _. memory >>= λ _.
      done (take (number bytes at 1) (drop (at + 1) bytes));
  size = λ c v. n;
  Fits = λ c v. (length v < n) × (length v < 2 ^ 8);
  bytes = λ c v. be_bytes 1 (length v) ++ (v ++ be_bytes (n - 1 - length v) 0);
  front = λ c. n;
  fixed = false;
  to_end = false;
  valid = nat_lt 0 n;
}
