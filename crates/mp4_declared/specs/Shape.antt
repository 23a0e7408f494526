-- The shape of a box's content: how a value is read, and in which bytes it is written. Bytes and offsets count from the
-- start of the box, which ends at `end`.
use Rattle.std.specs.Prelude.{ℕ, ◌+◌, ◌<◌, ◌^◌, ◌==◌, ◌&&◌, Bool, true, false, not, List, ◌++◌, if◌then◌else◌, All}
use Rattle.std.specs.Prelude.{length, map, flat_map, nat_lt, nat_le, ◌*◌, ◌-◌}
use Rattle.mp4_frame.specs.Tables.{rows_at}
use Rattle.mp4_frame.specs.Bytes.{number, be_bytes}
use Rattle.mp4_frame.specs.Reading.{Reading, ◌>>=◌, done, expect_bytes, check, memory}
use Rattle.mp4_declared.specs.declared.context.Context.{Context}

-- The reading at an offset, and for a value its number of bytes, whether it fits them, and the bytes themselves. The
-- first `front` bytes must be present before anything else is checked. A fixed shape has no other bytes, and refuses
-- none. A shape `to_end` takes all bytes up to the end of the box. In a `valid` one nothing follows such a part, and
-- the entries of a list have at least one byte.
pub record Shape (A : Type 0) : Type 1 where
  pub reads : Context → List ℕ → ℕ → ℕ → Reading A
  pub size : Context → A → ℕ
  pub Fits : Context → A → Type 0
  pub bytes : Context → A → List ℕ
  pub front : Context → ℕ
  pub fixed : Bool
  pub to_end : Bool
  pub valid : Bool

-- a number, whose width in bytes depends on the context
abbrev pub number_shape : (Context → ℕ) → Shape ℕ
number_shape width = record {
  reads = λ c bytes at end. expect_bytes bytes at (width c) >>= λ _. done (number bytes at (width c));
  size = λ c n. width c;
  Fits = λ c n. n < 256 ^ width c;
  bytes = λ c n. be_bytes (width c) n;
  front = width;
  fixed = true;
  to_end = false;
  valid = true;
}

-- the number of bytes of a time in a version
abbrev pub time_width : ℕ → ℕ
time_width version = if version == 0 then 4 else 8

-- n bytes, which are written as 0 and read as any
abbrev pub zeros_shape : ℕ → Shape (Unit {0})
zeros_shape n = record {
  reads = λ c bytes at end. expect_bytes bytes at n;
  size = λ c v. n;
  Fits = λ c v. Unit {0};
  bytes = λ c v. be_bytes n 0;
  front = λ c. n;
  fixed = true;
  to_end = false;
  valid = true;
}

-- two shapes, one after the other
abbrev pub pair_shape : {A B : Type 0} → Shape A → Shape B → Shape (A × B)
pair_shape {A} {B} a b = record {
  reads = λ c bytes at end. a.reads c bytes at end >>= λ x. b.reads c bytes (at + a.size c x) end >>= λ y. done (x, y);
  size = λ c v. a.size c v.0 + b.size c v.1;
  Fits = λ c v. a.Fits c v.0 × b.Fits c v.1;
  bytes = λ c v. a.bytes c v.0 ++ b.bytes c v.1;
  front = λ c. if a.fixed then a.front c + b.front c else a.front c;
  fixed = a.fixed && b.fixed;
  to_end = b.to_end;
  valid = a.valid && (not a.to_end && b.valid);
}

-- a shape whose values are converted, one to one
abbrev pub mapped_shape : {A B : Type 0} → (A → B) → (B → A) → Shape A → Shape B
mapped_shape {A} {B} f g s = record {
  reads = λ c bytes at end. s.reads c bytes at end >>= λ x. done (f x);
  size = λ c v. s.size c (g v);
  Fits = λ c v. s.Fits c (g v);
  bytes = λ c v. s.bytes c (g v);
  front = s.front;
  fixed = s.fixed;
  to_end = s.to_end;
  valid = s.valid;
}

-- the last of several shapes
abbrev pub last_shape : {A : Type 0} → Shape A → Shape (A × Unit {0})
last_shape {A} s = mapped_shape {A = A} {B = A × Unit {0}} (λ x. (x, tt)) (λ v. v.0) s

-- n bytes, which are written as 0 and read as any, and then a shape
abbrev pub reserved_shape : {A : Type 0} → ℕ → Shape A → Shape A
reserved_shape {A} n s =
    mapped_shape {A = Unit {0} × A} {B = A} (λ v. v.1) (λ x. (tt, x)) (pair_shape (zeros_shape n) s)

-- a version below n in 1 byte, flags in 3, and a shape that may depend on both
abbrev pub full_shape : {A : Type 0} → ℕ → Shape A → Shape (ℕ × (ℕ × A))
full_shape {A} n s = record {
  reads = λ c bytes at end.
      expect_bytes bytes at 4 >>= λ _. check (nat_lt (number bytes at 1) n) >>= λ _.
      s.reads (record { version = number bytes at 1; flags = number bytes (at + 1) 3 }) bytes (at + 4) end >>= λ v.
      done (number bytes at 1, (number bytes (at + 1) 3, v));
  size = λ c v. 4 + s.size (record { version = v.0; flags = v.1.0 }) v.1.1;
  Fits = λ c v. (v.0 < n) × (v.0 < 2 ^ 8) × (v.1.0 < 2 ^ 24)
      × s.Fits (record { version = v.0; flags = v.1.0 }) v.1.1;
  bytes = λ c v.
      (be_bytes 1 v.0 ++ be_bytes 3 v.1.0) ++ s.bytes (record { version = v.0; flags = v.1.0 }) v.1.1;
  front = λ c. 4;
  fixed = false;
  to_end = s.to_end;
  valid = s.valid;
}

-- the n rows of e bytes each at offset o, after a check that the box has room for them
unfoldable pub rows_within : List ℕ → ℕ → ℕ → ℕ → ℕ → Reading (List (List ℕ))
rows_within bytes end o e n = do
  _ ← check (nat_le (n * e) (end - o))
  rows_at bytes o e n

-- the entries in these rows
unfoldable pub reads_entries : {X : Type 0} → (List ℕ → X) → ℕ → List ℕ → ℕ → ℕ → ℕ → Reading (List X)
reads_entries entry_of e bytes end o n = do
  rows ← rows_within bytes end o e n
  _ ← memory
  done (map entry_of rows)

-- a count of `width` bytes, and that many entries, each in a row of e bytes
abbrev pub list_shape : {X : Type 0} → ℕ → ℕ → (X → List ℕ) → (List ℕ → X) → (X → Type 0) → Shape (List X)
list_shape width e row_of entry_of FitsRow = record {
  reads = λ c bytes at end.
      expect_bytes bytes at width >>= λ _. reads_entries entry_of e bytes end (at + width) (number bytes at width);
  size = λ c xs. width + e * length xs;
  Fits = λ c xs. (length xs < 256 ^ width) × All FitsRow xs;
  bytes = λ c xs. be_bytes width (length xs) ++ flat_map row_of xs;
  front = λ c. width;
  fixed = false;
  to_end = false;
  valid = nat_lt 0 e;
}
