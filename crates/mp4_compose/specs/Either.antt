-- A box of a first type, or a box of a second type for lists. Boxes whose names the first type knows are of the first
-- type, and all others are of the second.
use Rattle.std.specs.Prelude.{◌≡◌, ℕ, Bool, false, ◌||◌, List, if◌then◌else◌}
use Rattle.mp4_frame.specs.BoxType.{code_of}
use Rattle.mp4_frame.specs.Format.{Format}
use Rattle.mp4_frame.specs.Members.{Held, holds, format_held}
use Rattle.mp4_frame.specs.Reading.{Reading, map_reading}
use Rattle.mp4_frame.specs.declared.box_type.BoxType.{BoxType}
use Rattle.mp4_compose.specs.declared.either.Either.{Either}
use Rattle.mp4_compose.specs.declared.either.Either.TheVariants as either

-- names with the same code are known alike
abbrev pub ByCode : (BoxType → Bool) → Type 0
ByCode known = (n m : BoxType) → code_of n ≡ code_of m → known n ≡ known m

-- The format's values for a box. A box of the second type can be written only if the first type doesn't know its name.
abbrev pub held_or : {A B : Type 0} → (BoxType → Bool) → Format A → Format B → Either A B → Held (Either A B)
held_or first_known first second (either.First a) = holds first either.First a
held_or first_known first second (either.Second b) =
    record {
      name = second.name b;
      size = second.size b;
      Writable = second.Writable b × (first_known (second.name b) ≡ false);
      bytes = second.bytes b;
      normal = either.Second (second.normal b);
    }

abbrev pub format_or : {A B : Type 0} → (BoxType → Bool) → Format A → Format B → Format (Either A B)
format_or first_known first second = format_held (held_or first_known first second)

abbrev pub known_or : (BoxType → Bool) → (BoxType → Bool) → BoxType → Bool
known_or first_known known name = first_known name || known name

-- the minimum number of bytes of a box with a name, by the type that reads it
abbrev pub least_or : (BoxType → Bool) → (BoxType → ℕ) → (BoxType → ℕ) → BoxType → ℕ
least_or first_known first_least least name = if first_known name then first_least name else least name

abbrev pub reading_or : {A B : Type 0} → (BoxType → Bool) → (BoxType → List ℕ → ℕ → ℕ → Reading A)
    → (BoxType → List ℕ → ℕ → ℕ → Reading B) → BoxType → List ℕ → ℕ → ℕ → Reading (Either A B)
reading_or first_known first_reading named_reading name bytes start size =
    if first_known name then map_reading either.First (first_reading name bytes start size) else
    map_reading either.Second (named_reading name bytes start size)
