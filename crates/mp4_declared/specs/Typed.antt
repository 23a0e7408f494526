-- A tag of four bytes, and one shape if the tag is k, or another shape if it isn't.
use Rattle.std.specs.Prelude.{◌≡◌, ℕ, ◌+◌, ◌<◌, ◌^◌, ◌==◌, ◌&&◌, ◌||◌, false, List, ◌++◌, if◌then◌else◌}
use Rattle.mp4_frame.specs.Bytes.{number, be_bytes}
use Rattle.mp4_frame.specs.Reading.{Reading, ◌>>=◌, done, expect_bytes}
use Rattle.mp4_declared.specs.declared.context.Context.{Context}
use Rattle.mp4_declared.specs.Shape.{Shape}
use Rattle.mp4_declared.specs.declared.typed.OfType.{OfType}
use Rattle.mp4_declared.specs.declared.typed.OfType.TheVariants as of_type

-- a value after the same tag, converted
abbrev pub map_type : {A B C D : Type 0} → (A → C) → (B → D) → OfType A B → OfType C D
map_type f g (of_type.Own x) = of_type.Own (f x)
map_type f g (of_type.Other n y) = of_type.Other n (g y)

module _ {A B : Type 0} (k : ℕ) (s : Shape A) (t : Shape B) where
  abbrev pub size_typed : Context → OfType A B → ℕ
  size_typed c (of_type.Own x) = 4 + s.size c x
  size_typed c (of_type.Other n y) = 4 + t.size c y

  abbrev pub FitsTyped : Context → OfType A B → Type 0
  FitsTyped c (of_type.Own x) = s.Fits c x
  FitsTyped c (of_type.Other n y) = (n < 2 ^ 32) × ((n == k) ≡ false) × t.Fits c y

  abbrev pub bytes_typed : Context → OfType A B → List ℕ
  bytes_typed c (of_type.Own x) = be_bytes 4 k ++ s.bytes c x
  bytes_typed c (of_type.Other n y) = be_bytes 4 n ++ t.bytes c y

  -- the value after the tag n
  abbrev pub reads_after : Context → ℕ → List ℕ → ℕ → ℕ → Reading (OfType A B)
  reads_after c n bytes at end =
      if n == k then (s.reads c bytes at end >>= λ x. done (of_type.Own x))
      else (t.reads c bytes at end >>= λ y. done (of_type.Other n y))

  abbrev pub typed_shape : Shape (OfType A B)
  typed_shape = record {
    reads = λ c bytes at end. expect_bytes bytes at 4 >>= λ _. reads_after c (number bytes at 4) bytes (at + 4) end;
    size = λ c v. size_typed c v;
    Fits = λ c v. FitsTyped c v;
    bytes = λ c v. bytes_typed c v;
    front = λ c. 4;
    fixed = false;
    to_end = s.to_end || t.to_end;
    valid = s.valid && t.valid;
  }
