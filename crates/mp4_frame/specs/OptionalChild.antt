-- A child that a box may lack. There is 0 or 1 of them, and its size, bytes and normal form are those of its type's
-- format.
use Rattle.std.specs.Prelude.{ℕ, List, [], Option, Some, None}
use Rattle.mp4_frame.specs.Format.{Format}

abbrev pub count_optional : {A : Type 0} → Option A → ℕ
count_optional (Some v) = 1
count_optional None = 0

abbrev pub size_optional : {A : Type 0} → Format A → Option A → ℕ
size_optional format (Some v) = format.size v
size_optional format None = 0

abbrev pub WritableOptional : {A : Type 0} → Format A → Option A → Type 0
WritableOptional format (Some v) = format.Writable v
WritableOptional format None = Unit {0}

abbrev pub bytes_optional : {A : Type 0} → Format A → Option A → List ℕ
bytes_optional format (Some v) = format.bytes v
bytes_optional format None = []

abbrev pub normal_optional : {A : Type 0} → Format A → Option A → Option A
normal_optional format (Some v) = Some (format.normal v)
normal_optional format None = None
