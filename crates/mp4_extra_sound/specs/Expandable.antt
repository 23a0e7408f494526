-- An expandable size (ISO/IEC 14496-1, 8.3.3), and a shape that ends where the size says. The size is in 1 to 4 bytes
-- with 7 bits of it each, the highest first. The high bit of a byte says whether another byte follows.
use Rattle.std.specs.Prelude.{ℕ, ◌+◌, ◌*◌, ◌/◌, ◌%◌, ◌<◌, ◌≤◌, ◌==◌, false, nat_le, nat_lt, List, ◌++◌}
use Rattle.std.specs.Prelude.{if◌then◌else◌}
use Rattle.mp4_frame.specs.Bytes.{number, be_bytes}
use Rattle.mp4_frame.specs.Reading.{Reading, ◌>>=◌, done, expect_bytes, check}
use Rattle.mp4_declared.specs.declared.context.Context.{Context}
use Rattle.mp4_declared.specs.Shape.{Shape}

-- The last bytes of a size that begins at offset o. The bytes before them make m. The value is the number of all bytes,
-- and the size.
abbrev pub fourth_byte : List ℕ → ℕ → ℕ → Reading (ℕ × ℕ)
fourth_byte bytes o m = do
  _ ← expect_bytes bytes (o + 3) 1
  _ ← check (nat_lt (number bytes (o + 3) 1) 128)
  done (4, m * 128 + number bytes (o + 3) 1)

abbrev pub third_byte : List ℕ → ℕ → ℕ → Reading (ℕ × ℕ)
third_byte bytes o m = do
  _ ← expect_bytes bytes (o + 2) 1
  if nat_lt (number bytes (o + 2) 1) 128 then done (3, m * 128 + number bytes (o + 2) 1) else
      fourth_byte bytes o (m * 128 + number bytes (o + 2) 1 % 128)

abbrev pub second_byte : List ℕ → ℕ → ℕ → Reading (ℕ × ℕ)
second_byte bytes o m = do
  _ ← expect_bytes bytes (o + 1) 1
  if nat_lt (number bytes (o + 1) 1) 128 then done (2, m * 128 + number bytes (o + 1) 1) else
      third_byte bytes o (m * 128 + number bytes (o + 1) 1 % 128)

-- the size at offset o: its number of bytes, and the size itself
unfoldable pub size_at : List ℕ → ℕ → Reading (ℕ × ℕ)
size_at bytes o = do
  _ ← expect_bytes bytes o 1
  if nat_lt (number bytes o 1) 128 then done (1, number bytes o 1) else second_byte bytes o (number bytes o 1 % 128)

-- the number of sizes that w bytes can hold
abbrev pub sizes_in : ℕ → ℕ
sizes_in w = if w == 1 then 128 else if w == 2 then 16384 else if w == 3 then 2097152 else 268435456

-- the last 1, 2, 3 and 4 bytes of a size n
abbrev pub last_byte : ℕ → List ℕ
last_byte n = be_bytes 1 (n % 128)

abbrev pub two_bytes : ℕ → List ℕ
two_bytes n = be_bytes 1 (128 + n / 128 % 128) ++ last_byte n

abbrev pub three_bytes : ℕ → List ℕ
three_bytes n = be_bytes 1 (128 + n / 128 / 128 % 128) ++ two_bytes n

abbrev pub four_bytes : ℕ → List ℕ
four_bytes n = be_bytes 1 (128 + n / 128 / 128 / 128 % 128) ++ three_bytes n

-- a size n in w bytes
unfoldable pub size_bytes : ℕ → ℕ → List ℕ
size_bytes w n =
    if w == 1 then last_byte n else if w == 2 then two_bytes n else if w == 3 then three_bytes n else four_bytes n

module _ {A : Type 0} (s : Shape A) where
  -- The value after a size n in w bytes. The size is checked to end in the box. The value is checked to end where the
  -- size says, and a part of it that reaches to the end of a box reaches to there.
  unfoldable pub reads_inside : Context → List ℕ → ℕ → ℕ → ℕ → ℕ → Reading (ℕ × A)
  reads_inside c bytes at end w n = do
    _ ← check (nat_le (at + w + n) end)
    x ← s.reads c bytes (at + w) (at + w + n)
    _ ← check (at + w + s.size c x == at + w + n)
    done (w, x)

  -- The number of bytes of the size, and a value. The number is kept, so that the same bytes are written.
  abbrev pub expandable_shape : Shape (ℕ × A)
  expandable_shape = record {
    reads = λ c bytes at end. size_at bytes at >>= λ p. reads_inside c bytes at end p.0 p.1;
    size = λ c v. v.0 + s.size c v.1;
    Fits = λ c v. (1 ≤ v.0) × (v.0 ≤ 4) × (s.size c v.1 < sizes_in v.0) × s.Fits c v.1;
    bytes = λ c v. size_bytes v.0 (s.size c v.1) ++ s.bytes c v.1;
    front = λ c. 1;
    fixed = false;
    to_end = false;
    valid = s.valid;
  }
