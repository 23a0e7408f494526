-- Four-character codes, and entries of a fixed length up to the end of a box.
use Rattle.std.specs.Prelude.{ℕ, ◌-◌, ◌*◌, ◌/◌, ◌%◌, ◌==◌, ◌<◌, ◌^◌, true, false, List, All, length, map, flat_map}
use Rattle.std.specs.Prelude.{nat_lt}
use Rattle.mp4_frame.specs.Bytes.{number, be_bytes}
use Rattle.mp4_frame.specs.FourCC.{IsFourCC}
use Rattle.mp4_frame.specs.Reading.{Reading, ◌>>=◌, done, check, memory}
use Rattle.mp4_frame.specs.Tables.{rows_at}
use Rattle.mp4_frame.specs.declared.four_cc.FourCC.{FourCC}
use Rattle.mp4_declared.specs.OptionalShapes.{array_shape}
use Rattle.mp4_declared.specs.Shape.{Shape, mapped_shape}

-- the rows of e bytes each up to the end, after a check that whole rows fill these bytes
unfoldable pub rows_to_end : ℕ → List ℕ → ℕ → ℕ → Reading (List (List ℕ))
rows_to_end e bytes at end = do
  _ ← check ((end - at) % e == 0)
  rows_at bytes at e ((end - at) / e)

-- the entries in these rows
unfoldable pub reads_to_end : {X : Type 0} → (List ℕ → X) → ℕ → List ℕ → ℕ → ℕ → Reading (List X)
reads_to_end entry_of e bytes at end = do
  rows ← rows_to_end e bytes at end
  _ ← memory
  done (map entry_of rows)

abbrev pub to_end_shape : {X : Type 0} → ℕ → (X → List ℕ) → (List ℕ → X) → (X → Type 0) → Shape (List X)
to_end_shape e row_of entry_of FitsRow = record {
  reads = λ c bytes at end. reads_to_end entry_of e bytes at end;
  size = λ c xs. e * length xs;
  Fits = λ c xs. All FitsRow xs;
  bytes = λ c xs. flat_map row_of xs;
  front = λ c. 0;
  fixed = false;
  to_end = true;
  valid = nat_lt 0 e;
}

-- the four-character code in a row
abbrev pub code_in : List ℕ → FourCC
code_in row = record { value = row }

-- a four-character code
abbrev pub code_shape : Shape FourCC
code_shape = mapped_shape code_in (λ code. code.value) (array_shape 4)

-- four-character codes up to the end
abbrev pub codes_shape : Shape (List FourCC)
codes_shape = to_end_shape 4 (λ (code : FourCC). code.value) code_in IsFourCC

-- the number in a row
abbrev pub number_in : List ℕ → ℕ
number_in row = number row 0 4

-- numbers of 4 bytes up to the end
abbrev pub numbers_shape : Shape (List ℕ)
numbers_shape = to_end_shape 4 (λ n. be_bytes 4 n) number_in (λ n. n < 2 ^ 32)
