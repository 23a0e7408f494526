-- The bytes that a run reads and writes, and its result: first for any command, then for `normal` and for `list`.
--
-- Two relations define a command: `Makes B out` says that it writes `out` for the input `B`, and `Refusal B e` that it
-- may refuse `B` with the error `e`. The bytes that a reader has left, and the bytes that a writer has, are `Some` if
-- they are known. Nothing is claimed of unknown bytes.
use Rattle.std.specs.Prelude.{◌≡◌, ℕ, ◌+◌, ◌≤◌, Bool, true, false, List, ◌++◌, length, take, Result, Ok, Err}
use Rattle.std.specs.Prelude.{IfSome, ⊤}
use Rattle.std.specs.declared.option.Option.{Option}
use Rattle.std.specs.Io.KnownBytes.{Keeps, Appends, Consumes, IsAtEnd}
use Rattle.mp4_frame.specs.Reading.{Refuses}
use Rattle.mp4_frame.specs.Spans.{spans}
use Rattle.mp4_frame.specs.declared.error.Error.{Error}
use Rattle.mp4_frame.specs.declared.error.Error.TheVariants as errors
use Rattle.mp4_frame.specs.declared.list.BoxSpan.{BoxSpan}
pub use Rattle.mp4_normal.specs.Normal.{Normalizes, NormalRefusal}
use Rattle.mp4_boxes.specs.declared.command.Command.{Command}
use Rattle.mp4_boxes.specs.declared.command.Command.TheVariants as commands
use Rattle.mp4_boxes.specs.declared.fault.RunFault.{RunFault}
use Rattle.mp4_boxes.specs.declared.fault.RunFault.TheVariants as faults
use Rattle.mp4_boxes.specs.declared.outcome.Outcome.{Outcome}
use Rattle.mp4_boxes.specs.declared.outcome.Outcome.TheVariants as outcomes
use Rattle.mp4_boxes.specs.Lines.{lines}

-- the bytes that a run appends to the output: after an `Ok` the `n` bytes that the command makes, after a failed write
-- a beginning of them, and after any other fault nothing
abbrev pub Runs : (List ℕ → List ℕ → Type 0) → (List ℕ → Error → Type 0)
    → Option (List ℕ) → Option (List ℕ) → Option (List ℕ) → Result ℕ RunFault → Type 0
Runs Makes Refusal input old new (Ok n) = (out : List ℕ) × IfSome input (λ B. Makes B out)
    × Appends old new out × (n ≡ length out)
Runs Makes Refusal input old new (Err faults.Read) = Keeps old new
Runs Makes Refusal input old new (Err faults.Write) = (out : List ℕ) × IfSome input (λ B. Makes B out)
    × ((k : ℕ) × Appends old new (take k out))
Runs Makes Refusal input old new (Err (faults.Boxes e)) = IfSome input (λ B. Refusal B e) × Keeps old new

-- after an `Ok` or a failed write nothing is left to read
abbrev pub ReachesEnd : {A : Type 0} → Option (List ℕ) → Result A RunFault → Type 0
ReachesEnd rest (Ok _) = IsAtEnd rest
ReachesEnd rest (Err faults.Write) = IsAtEnd rest
ReachesEnd rest (Err _) = ⊤

-- the fault is a failed read
abbrev pub is_read : {A : Type 0} → Result A RunFault → Bool
is_read (Err faults.Read) = true
is_read _ = false

-- the fault is a failed write
abbrev pub is_write : {A : Type 0} → Result A RunFault → Bool
is_write (Err faults.Write) = true
is_write _ = false

-- reading to the end returns all bytes of the input, or a failed read, or out of memory
abbrev pub ReadsAll : {V : Type 0} → (V → List ℕ)
    → Option (List ℕ) → Option (List ℕ) → Result V RunFault → Type 0
ReadsAll items old new (Ok v) = IfSome old (λ B. items v ≡ B) × IsAtEnd new
ReadsAll items old new (Err faults.Read) = ⊤
ReadsAll items old new (Err faults.Write) = ⊥
ReadsAll items old new (Err (faults.Boxes e)) = e ≡ errors.OutOfMemory

-- writing all of `out` appends it and returns its length, or is a failed write after a beginning of it
abbrev pub WritesAll : Option (List ℕ) → Option (List ℕ) → Result ℕ RunFault → List ℕ → Type 0
WritesAll old new (Ok n) out = Appends old new out × (n ≡ length out)
WritesAll old new (Err faults.Write) out = (k : ℕ) × Appends old new (take k out)
WritesAll old new (Err _) out = ⊥

-- the result of a call that makes the output for the input `B`
abbrev pub Rewrites : {V : Type 0} → (List ℕ → List ℕ → Type 0) → (List ℕ → Error → Type 0)
    → (V → List ℕ) → List ℕ → Result V Error → Type 0
Rewrites Makes Refusal items B (Ok v) = Makes B (items v)
Rewrites Makes Refusal items B (Err e) = Refusal B e

-- the boxes of `B` can be listed, and `out` is their lines
abbrev pub Lists : List ℕ → List ℕ → Type 0
Lists B out = (found : List BoxSpan) × ((spans B 0).outcome ≡ Ok found) × (out ≡ lines found)

-- `list` may refuse `B` with the first fault of its spans, and with out of memory
abbrev pub ListRefusal : List ℕ → Error → Type 0
ListRefusal B errors.OutOfMemory = ⊤
ListRefusal B e = Refuses e (spans B 0)

-- these bytes decide the error of a list: it is the first fault of every input that begins with them. At most 65,536 of
-- them follow an offset `o` such that the boxes starting at `o` have this fault too
abbrev pub Decides : List ℕ → Error → Type 0
Decides read e = ((more : List ℕ) → Refuses e (spans (read ++ more) 0))
    × ((o : ℕ) × (length read ≤ o + 65536) × ((more : List ℕ) → Refuses e (spans (read ++ more) o)))

-- the point at which `list` stops reading: a cut box or header is found at the end of the input, and any other fault in
-- the bytes that were read, whatever follows them
abbrev pub Stops : {A : Type 0} → Option (List ℕ) → Option (List ℕ) → Result A RunFault → Type 0
Stops old new (Err (faults.Boxes errors.IoError)) = IsAtEnd new
Stops old new (Err (faults.Boxes errors.OutOfMemory)) = ⊤
Stops old new (Err (faults.Boxes e)) = (read : List ℕ) × Consumes old new read × Decides read e
Stops old new _ = ⊤

-- the output of a command for `B`
abbrev pub Makes : Command → List ℕ → List ℕ → Type 0
Makes commands.Normal = Normalizes
Makes commands.List = Lists

-- the errors with which a command may refuse `B`
abbrev pub MayRefuse : Command → List ℕ → Error → Type 0
MayRefuse commands.Normal = NormalRefusal
MayRefuse commands.List = ListRefusal

-- the end of a run of a command: everything is written, or the fault is the outcome
abbrev pub EndsAs : Command → Option (List ℕ) → Option (List ℕ) → Option (List ℕ) → Outcome → Type 0
EndsAs command input old new outcomes.Done = (n : ℕ) × Runs (Makes command) (MayRefuse command) input old new (Ok n)
EndsAs command input old new (outcomes.Failed fault) =
    Runs (Makes command) (MayRefuse command) input old new (Err fault)
EndsAs command input old new outcomes.Misused = ⊥
