-- The end of a box: a shape if a condition holds and the box has at least k more bytes, and otherwise bytes.
use Rattle.std.specs.Prelude.{◌≡◌, ℕ, ◌-◌, ◌&&◌, Bool, true, false, nat_le, List, length, if◌then◌else◌}
use Rattle.mp4_frame.specs.Reading.{Reading, ◌>>=◌, done}
use Rattle.mp4_declared.specs.declared.context.Context.{Context}
use Rattle.mp4_declared.specs.OptionalShapes.{reads_run}
use Rattle.mp4_declared.specs.Shape.{Shape}
use Rattle.mp4_extra_pictures.specs.declared.tail.AtEnd.{AtEnd}
use Rattle.mp4_extra_pictures.specs.declared.tail.AtEnd.TheVariants as at_end

-- a value, converted
abbrev pub map_end : {A B C D : Type 0} → (A → C) → (B → D) → AtEnd A B → AtEnd C D
map_end f g (at_end.Known x) = at_end.Known (f x)
map_end f g (at_end.Other y) = at_end.Other (g y)

module _ {A : Type 0} (holds : Context → Bool) (k : ℕ) (s : Shape A) where
  -- The shape is present if n more bytes are.
  abbrev pub is_known : Context → ℕ → Bool
  is_known c n = holds c && nat_le k n

  abbrev pub size_tail : Context → AtEnd A (List ℕ) → ℕ
  size_tail c (at_end.Known x) = s.size c x
  size_tail c (at_end.Other bs) = length bs

  abbrev pub FitsTail : Context → AtEnd A (List ℕ) → Type 0
  FitsTail c (at_end.Known x) = (holds c ≡ true) × s.Fits c x
  FitsTail c (at_end.Other bs) = is_known c (length bs) ≡ false

  abbrev pub bytes_tail : Context → AtEnd A (List ℕ) → List ℕ
  bytes_tail c (at_end.Known x) = s.bytes c x
  bytes_tail c (at_end.Other bs) = bs

  abbrev pub reads_by : Context → Bool → List ℕ → ℕ → ℕ → Reading (AtEnd A (List ℕ))
  reads_by c is bytes at end =
      if is then (s.reads c bytes at end >>= λ x. done (at_end.Known x))
      else (reads_run bytes end at (end - at) >>= λ bs. done (at_end.Other bs))

  abbrev pub tail_shape : Shape (AtEnd A (List ℕ))
  tail_shape = record {
    reads = λ c bytes at end. reads_by c (is_known c (end - at)) bytes at end;
    size = λ c v. size_tail c v;
    Fits = λ c v. FitsTail c v;
    bytes = λ c v. bytes_tail c v;
    front = λ c. 0;
    fixed = false;
    to_end = true;
    valid = s.valid;
  }
