-- An input that is read in parts, and the lines of the boxes that are known so far.
use Rattle.std.specs.Prelude.{◌≡◌, ℕ, ◌+◌, ◌-◌, ◌<◌, ◌≤◌, List, [], ◌∷◌, ◌++◌, length, drop, None, Some, Result}
use Rattle.std.specs.Prelude.{Ok, Err, ⊤}
use Rattle.std.specs.declared.option.Option.{Option}
use Rattle.std.specs.Io.KnownBytes.{Consumes, IsAtEnd}
use Rattle.mp4_frame.specs.Heads.{head}
use Rattle.mp4_frame.specs.Reading.{Fault, End, FaultAs, Refuses}
use Rattle.mp4_frame.specs.Spans.{spans}
use Rattle.mp4_frame.specs.declared.box_type.BoxType.{BoxType}
use Rattle.mp4_frame.specs.declared.error.Error.{Error}
use Rattle.mp4_frame.specs.declared.error.Error.TheVariants as errors
use Rattle.mp4_frame.specs.declared.frame.Frame.{Frame}
use Rattle.mp4_frame.specs.declared.list.BoxSpan.{BoxSpan}
use Rattle.mp4_boxes.specs.Lines.{lines}
use Rattle.mp4_boxes.specs.Runs.{Lists, ListRefusal}
use Rattle.mp4_boxes.specs.declared.fault.RunFault.{RunFault}
use Rattle.mp4_boxes.specs.declared.fault.RunFault.TheVariants as faults
use Rattle.mp4_boxes.specs.declared.part.Next.{Next}
use Rattle.mp4_boxes.specs.declared.part.Next.TheVariants as nexts

-- the bytes of `B` after an offset are a part and then the rest
abbrev pub HasPart : List ℕ → ℕ → List ℕ → List ℕ → Type 0
HasPart B from part rest = (from ≤ length B) × (drop from B ≡ part ++ rest)

-- the bytes that were read end with a part, which begins at the offset `from`
abbrev pub HasEnd : List ℕ → ℕ → List ℕ → Type 0
HasEnd read from part = (from ≤ length read) × (drop from read ≡ part)

-- more bytes are read after the first ones, and then `Is` holds of all of them
abbrev pub ReadsOn : Option (List ℕ) → Option (List ℕ) → List ℕ → (List ℕ → Type 0) → Type 0
ReadsOn old new read Is = (more : List ℕ) × Consumes old new more × Is (read ++ more)

-- the reader has left all of `B` except its first `read` bytes, if that is known
abbrev pub HasRest : List ℕ → ℕ → Option (List ℕ) → Type 0
HasRest B read left = (rest : List ℕ) × (left ≡ Some rest) × (length B ≡ read + length rest)

-- the known boxes, and then the boxes of the rest of the input
abbrev pub known_then : List BoxSpan → Result (List BoxSpan) Fault → Result (List BoxSpan) Fault
known_then known (Ok more) = Ok (known ++ more)
known_then known (Err k) = Err k

-- the text has the lines of the boxes before the offset `o`, at which the next box begins. If `o` is past the end of
-- `B`, a box is cut
abbrev pub LinesTo : List ℕ → List ℕ → ℕ → Type 0
LinesTo B text o = (known : List BoxSpan) × (text ≡ lines known)
    × (o ≤ length B → (spans B 0).outcome ≡ known_then known (spans B o).outcome)
    × (length B < o → Refuses errors.IoError (spans B 0))

-- the text has the lines of the boxes before the offset `o`, and the bytes before the offset `read` don't have the
-- whole header at `o`
abbrev pub LinesIn : List ℕ → ℕ → List ℕ → ℕ → Type 0
LinesIn B read text o = LinesTo B text o × (o < read → read ≡ length B → Refuses errors.IoError (spans B 0))

-- the text has the lines of all boxes of `B` except the last, which extends from the offset `o` to the end
abbrev pub LinesBefore : List ℕ → List ℕ → ℕ → BoxType → Type 0
LinesBefore B text o name = (known : List BoxSpan) × (text ≡ lines known)
    × ((spans B 0).outcome ≡ Ok (known ++ record { position = o; length = length B - o; name = name } ∷ []))

-- the known lines of `B` when its bytes before the offset `read` are listed
abbrev pub ListsTo : List ℕ → ℕ → List ℕ → Result Next Error → Type 0
ListsTo B read text (Ok (nexts.Box o)) = LinesIn B read text o
ListsTo B read text (Ok (nexts.Last o name)) = LinesBefore B text o name
ListsTo B read text (Err e) = ListRefusal B e

-- fewer than 16 bytes before the offset `read` belong to a box that is not listed, and the last box begins at or after
-- `next`
abbrev pub IsFew : ℕ → ℕ → Next → Type 0
IsFew read next (nexts.Box o) = (next ≤ o) × (read < o + 16)
IsFew read next (nexts.Last o name) = (next ≤ o) × (o < read)

-- the head at the offset `o` of `B`, or None if the bytes before the offset `read` end within the header
abbrev pub HeadIn : List ℕ → ℕ → ℕ → Result (Option Frame) Error → Type 0
HeadIn B read o (Ok (Some h)) = (head B o).outcome ≡ Ok h
HeadIn B read o (Ok None) = read ≡ length B → (head B o).outcome ≡ Err End
HeadIn B read o (Err e) = FaultAs (Err e) (head B o).outcome

-- the end of listing an input of which `Is` holds: the lines of all its boxes, a failed read, or a fault of the input.
-- After an `Ok` nothing is left to read
abbrev pub Ends : {V : Type 0} → (V → List ℕ) → (List ℕ → Type 0) → Option (List ℕ) → Result V RunFault → Type 0
Ends items Is new (Ok v) = ((B : List ℕ) → Is B → Lists B (items v)) × IsAtEnd new
Ends items Is new (Err faults.Read) = ⊤
Ends items Is new (Err faults.Write) = ⊥
Ends items Is new (Err (faults.Boxes e)) = (B : List ℕ) → Is B → ListRefusal B e

-- the fault of reading a part
abbrev pub IsReadOrMemory : RunFault → Type 0
IsReadOrMemory faults.Read = ⊤
IsReadOrMemory faults.Write = ⊥
IsReadOrMemory (faults.Boxes e) = e ≡ errors.OutOfMemory
