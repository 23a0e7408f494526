-- A shape that is present only in some versions, or only with some flags, and is reserved bytes otherwise.
use Rattle.std.specs.Prelude.{ℕ, Bool, false, List, Option, Some, None, if◌then◌else◌}
use Rattle.mp4_frame.specs.Bytes.{be_bytes}
use Rattle.mp4_frame.specs.Reading.{Reading, ◌>>=◌, done, expect_bytes}
use Rattle.mp4_declared.specs.OptionalShapes.{FitsIf}
use Rattle.mp4_declared.specs.declared.context.Context.{Context}
use Rattle.mp4_declared.specs.Shape.{Shape}

module _ {A : Type 0} (is_present : Context → Bool) (s : Shape A) (n : ℕ) where
  abbrev pub size_or : Context → Option A → ℕ
  size_or c (Some x) = s.size c x
  size_or c None = n

  abbrev pub bytes_or : Context → Option A → List ℕ
  bytes_or c (Some x) = s.bytes c x
  bytes_or c None = be_bytes n 0

  abbrev pub reads_or : Context → Bool → List ℕ → ℕ → ℕ → Reading (Option A)
  reads_or c b bytes at end =
      if b then (s.reads c bytes at end >>= λ x. done (Some x)) else (expect_bytes bytes at n >>= λ _. done None)

  abbrev pub or_zeros_shape : Shape (Option A)
  or_zeros_shape = record {
    reads = λ c bytes at end. reads_or c (is_present c) bytes at end;
    size = λ c v. size_or c v;
    Fits = λ c v. FitsIf s c (is_present c) v;
    bytes = λ c v. bytes_or c v;
    front = λ c. if is_present c then s.front c else n;
    fixed = false;
    to_end = s.to_end;
    valid = s.valid;
  }
