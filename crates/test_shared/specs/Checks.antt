-- The statements that checks make about a box and its reading.
use Rattle.std.specs.Prelude.{◌≡◌, ℕ, Bool, true, List, length, take, Result, Ok, Err, IsOk, IsOkAnd, IsTrue}
use Rattle.mp4_frame.specs.Reading.{Reading, End, Invalid, NotFound, reading}
use Rattle.mp4_frame.specs.declared.error.Error.{Error}
use Rattle.mp4_frame.specs.declared.error.Error.TheVariants as errors
use Rattle.test_shared.specs.declared.helpers.outcomes.Kind.{Kind}
use Rattle.test_shared.specs.declared.helpers.outcomes.Kind.TheVariants as kinds

-- The kind of a call's result.
abbrev pub kind_of : {A : Type 0} → Result A Error → Kind
kind_of (Ok _) = kinds.Ok
kind_of (Err errors.IoError) = kinds.End
kind_of (Err (errors.InvalidData _)) = kinds.Invalid
kind_of (Err (errors.BoxNotFound name)) = kinds.NotFound name
kind_of (Err errors.OutOfMemory) = kinds.Memory
kind_of (Err _) = kinds.Other

-- The reading ends as `Kind` says: in a value, or in this fault. For `Memory` the reading asks for memory, which may be
-- refused. No reading ends in `Other`.
abbrev pub EndsIn : {A : Type 0} → Kind → Reading A → Type 0
EndsIn kinds.Ok r = IsOk r.outcome
EndsIn kinds.End r = r.outcome ≡ Err End
EndsIn kinds.Invalid r = r.outcome ≡ Err Invalid
EndsIn (kinds.NotFound name) r = r.outcome ≡ Err (NotFound name)
EndsIn kinds.Memory r = r.asks_memory ≡ true
EndsIn kinds.Other r = ⊥

-- The reading ends in a value that `eq` finds equal to v.
abbrev pub ReadsAs : {A : Type 0} → (A → A → Bool) → Reading A → A → Type 0
ReadsAs eq r v = IsOkAnd r.outcome (λ w. IsTrue (eq w v))

-- The reading of only the first n bytes of a box. Its size is the number of all its bytes.
abbrev pub cut_reading : {A : Type 0} → (List ℕ → ℕ → ℕ → Reading A) → List ℕ → ℕ → Reading A
cut_reading reads bytes n = reading reads (take n bytes) 0 (length bytes)
