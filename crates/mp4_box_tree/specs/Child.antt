-- A shape for a box among the fields of another box. The box is declared, has a header of 8 bytes, and ends with its
-- fields.
use Rattle.std.specs.Prelude.{◌≡◌, ℕ, ◌+◌, ◌-◌, ◌==◌, nat_le, false, List}
use Rattle.mp4_frame.specs.Bytes.{number}
use Rattle.mp4_frame.specs.Reading.{Reading, ◌>>=◌, expect_bytes, check, piece_at, done}
use Rattle.mp4_declared.specs.OwnBox.{OwnLayout, reads_declared, size_declared, format_declared}
use Rattle.mp4_declared.specs.Shape.{Shape}

module _ {code : ℕ} {C V : Type 0} (s : Shape C) (l : OwnLayout code C V) where
  -- the value of the box with these bytes, if it encodes to the same number of bytes
  abbrev pub reads_whole : ℕ → List ℕ → Reading V
  reads_whole size box = do
    v ← reads_declared s l box 0 size
    _ ← check (size == size_declared s l v)
    done v

  -- the value of the box with this size at offset `at`, in a box that ends at `end`
  abbrev pub reads_sized : List ℕ → ℕ → ℕ → ℕ → Reading V
  reads_sized bytes at end size = do
    _ ← check (nat_le size (end - at))
    box ← piece_at bytes at size
    reads_whole size box

  unfoldable pub reads_child : List ℕ → ℕ → ℕ → Reading V
  reads_child bytes at end = do
    _ ← expect_bytes bytes at 8
    _ ← check (number bytes (at + 4) 4 == code)
    reads_sized bytes at end (number bytes at 4)

  -- a value fits if it can be written as a box and is its own normal form
  abbrev pub child_shape : Shape V
  child_shape = record {
    reads = λ c bytes at end. reads_child bytes at end;
    size = λ c v. size_declared s l v;
    Fits = λ c v. (format_declared s l).Writable v × (l.value (l.content v) ≡ v);
    bytes = λ c v. (format_declared s l).bytes v;
    front = λ c. 8;
    fixed = false;
    to_end = false;
    valid = s.valid;
  }
