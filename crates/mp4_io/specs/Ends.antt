-- The effects of calls of a reader or a writer. The bytes that a reader has left, and the bytes that a writer has, are
-- `Some` if they are known. Nothing is claimed of unknown bytes.
use Rattle.std.specs.Prelude.{◌≡◌, ℕ, ◌<◌, ◌≤◌, Bool, true, false, List, length, take, None, Some, Result, Ok, Err}
use Rattle.std.specs.Prelude.{IfSome, ⊤}
use Rattle.std.specs.declared.option.Option.{Option}
use Rattle.std.specs.Io.KnownBytes.{Keeps, Appends, Consumes, IsAtEnd}
use Rattle.mp4_io.specs.declared.failure.Failure.{Failure}
use Rattle.mp4_io.specs.declared.failure.Failure.TheVariants as failures

-- a pull takes the first bytes that the reader has left, and none only at its end or into an empty slice
abbrev pub Pulls : Option (List ℕ) → Option (List ℕ) → Option ℕ → List ℕ → Type 0
Pulls old new (Some n) buf = Consumes old new (take n buf) × (n ≡ 0 → 0 < length buf → IsAtEnd new)
Pulls old new None buf = Keeps old new

-- a pull into a slice that is not empty takes the first bytes that the reader has left, and none only at its end
abbrev pub PullsInto : Option (List ℕ) → Option (List ℕ) → Option ℕ → List ℕ → Type 0
PullsInto old new (Some n) buf = Consumes old new (take n buf) × (n ≡ 0 → IsAtEnd new)
PullsInto old new None buf = Keeps old new

-- a push appends the first bytes of the piece, and none only if the piece is empty
abbrev pub Pushes : Option (List ℕ) → Option (List ℕ) → Option ℕ → List ℕ → Type 0
Pushes old new (Some n) piece = Appends old new (take n piece) × (0 < length piece → 0 < n)
Pushes old new None piece = Keeps old new

-- the failure is a failed read
abbrev pub is_read : {A : Type 0} → Result A Failure → Bool
is_read (Err failures.Read) = true
is_read _ = false

-- the failure is a failed write
abbrev pub is_write : {A : Type 0} → Result A Failure → Bool
is_write (Err failures.Write) = true
is_write _ = false

-- reading to the end returns all bytes of the input, or a failed read, or out of memory
abbrev pub ReadsAll : {V : Type 0} → (V → List ℕ) → Option (List ℕ) → Option (List ℕ) → Result V Failure → Type 0
ReadsAll items old new (Ok v) = IfSome old (λ B. items v ≡ B) × IsAtEnd new
ReadsAll items old new (Err failures.Read) = ⊤
ReadsAll items old new (Err failures.Write) = ⊥
ReadsAll items old new (Err failures.Memory) = ⊤

-- skipping to the end returns the number of bytes of the input, or a failed read, or out of memory if the input has
-- more bytes than the limit
abbrev pub SkipsAll : ℕ → Option (List ℕ) → Option (List ℕ) → Result ℕ Failure → Type 0
SkipsAll limit old new (Ok n) = IfSome old (λ B. n ≡ length B) × IsAtEnd new × (n ≤ limit)
SkipsAll limit old new (Err failures.Read) = ⊤
SkipsAll limit old new (Err failures.Write) = ⊥
SkipsAll limit old new (Err failures.Memory) = IfSome old (λ B. limit < length B)

-- writing all of `out` appends it, or is a failed write after a beginning of it
abbrev pub WritesAll : {V : Type 0} → Option (List ℕ) → Option (List ℕ) → Result V Failure → List ℕ → Type 0
WritesAll old new (Ok _) out = Appends old new out
WritesAll old new (Err failures.Write) out = (k : ℕ) × Appends old new (take k out)
WritesAll old new (Err _) out = ⊥
