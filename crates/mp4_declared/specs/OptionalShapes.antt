-- Optional shapes, runs of bytes, signed numbers, and bit fields.
use Rattle.std.specs.Prelude.{◌≡◌, ℕ, ◌+◌, ◌-◌, ◌<◌, ◌^◌, Bool, true, false, nat_le, List, [], ◌++◌, Option, Some, None}
use Rattle.std.specs.Prelude.{if◌then◌else◌, length}
use Rattle.std.specs.Prelude.{ℤ, FitsSigned, slice_index}
use Rattle.std.specs.Int.{Width, cast_signed, cast_unsigned}
use Rattle.mp4_frame.specs.Bytes.{number, be_bytes}
use Rattle.mp4_frame.specs.Reading.{Reading, ◌>>=◌, done, expect_bytes, check, piece_at, memory}
use Rattle.mp4_declared.specs.declared.context.Context.{Context}
use Rattle.mp4_declared.specs.Bits.{bytes_in, split}
use Rattle.mp4_declared.specs.Layout.{EntryLayout, row_of, FitsEntry}
use Rattle.mp4_declared.specs.Shape.{Shape}

abbrev pub size_if : {A : Type 0} → Shape A → Context → Option A → ℕ
size_if s c (Some x) = s.size c x
size_if s c None = 0

abbrev pub bytes_if : {A : Type 0} → Shape A → Context → Option A → List ℕ
bytes_if s c (Some x) = s.bytes c x
bytes_if s c None = []

abbrev pub FitsIf : {A : Type 0} → Shape A → Context → Bool → Option A → Type 0
FitsIf s c is_present (Some x) = (is_present ≡ true) × s.Fits c x
FitsIf s c is_present None = is_present ≡ false

abbrev pub reads_if : {A : Type 0} → Shape A → Context → Bool → List ℕ → ℕ → ℕ → Reading (Option A)
reads_if s c is_present bytes at end =
    if is_present then (s.reads c bytes at end >>= λ x. done (Some x)) else done None

-- a shape that is present only in some versions, or only with some flags
abbrev pub shape_if : {A : Type 0} → (Context → Bool) → Shape A → Shape (Option A)
shape_if {A} is_present s = record {
  reads = λ c bytes at end. reads_if s c (is_present c) bytes at end;
  size = λ c v. size_if s c v;
  Fits = λ c v. FitsIf s c (is_present c) v;
  bytes = λ c v. bytes_if s c v;
  front = λ c. if is_present c then s.front c else 0;
  fixed = false;
  to_end = s.to_end;
  valid = s.valid;
}

-- the n bytes at offset o, after a check that the box has room for them
unfoldable pub reads_run : List ℕ → ℕ → ℕ → ℕ → Reading (List ℕ)
reads_run bytes end o n = do
  _ ← check (nat_le n (end - o))
  run ← piece_at bytes o n
  _ ← memory
  done run

-- a count of `width` bytes, and that many bytes
abbrev pub run_shape : ℕ → Shape (List ℕ)
run_shape width = record {
  reads = λ c bytes at end.
      expect_bytes bytes at width >>= λ _. reads_run bytes end (at + width) (number bytes at width);
  size = λ c v. width + length v;
  Fits = λ c v. length v < 256 ^ width;
  bytes = λ c v. be_bytes width (length v) ++ v;
  front = λ c. width;
  fixed = false;
  to_end = false;
  valid = true;
}

-- all bytes up to the end of the box
abbrev pub rest_shape : Shape (List ℕ)
rest_shape = record {
  reads = λ c bytes at end. reads_run bytes end at (end - at);
  size = λ c v. length v;
  Fits = λ c v. Unit {0};
  bytes = λ c v. v;
  front = λ c. 0;
  fixed = false;
  to_end = true;
  valid = true;
}

-- n bytes
abbrev pub array_shape : ℕ → Shape (List ℕ)
array_shape n = record {
  reads = λ c bytes at end. piece_at bytes at n;
  size = λ c v. n;
  Fits = λ c v. length v ≡ n;
  bytes = λ c v. v;
  front = λ c. n;
  fixed = true;
  to_end = false;
  valid = true;
}

-- a signed number of n bytes, in two's complement
abbrev pub signed_shape : Width → ℕ → Shape ℤ
signed_shape w n = record {
  reads = λ c bytes at end. expect_bytes bytes at n >>= λ _. done (cast_signed w (number bytes at n));
  size = λ c z. n;
  Fits = λ c z. FitsSigned w z;
  bytes = λ c z. be_bytes n (cast_unsigned w z);
  front = λ c. n;
  fixed = true;
  to_end = false;
  valid = true;
}

-- numbers in bit fields, in e bytes
abbrev pub bits_shape : {X : Type 0} → EntryLayout X → ℕ → Shape X
bits_shape l e = record {
  reads = λ c bytes at end. expect_bytes bytes at e >>= λ _.
      done (l.value (slice_index (split l.widths (number bytes at (bytes_in l.widths)))));
  size = λ c x. e;
  Fits = λ c x. FitsEntry l x;
  bytes = λ c x. row_of l x;
  front = λ c. e;
  fixed = true;
  to_end = false;
  valid = true;
}
