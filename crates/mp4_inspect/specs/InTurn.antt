-- Texts of boxes that are written in turn. Each has a mark, and all together are marked if one is. The bytes that a
-- writer has are `Some` if they are known. Nothing is claimed of unknown bytes.
use Rattle.std.specs.Prelude.{◌≡◌, ℕ, ◌||◌, Bool, false, List, [], ◌∷◌, ◌++◌, take, Result, Ok, Err}
use Rattle.std.specs.declared.option.Option.{Option}
use Rattle.std.specs.Io.KnownBytes.{Appends}
use Rattle.mp4_io.specs.declared.failure.Failure.{Failure}
use Rattle.mp4_io.specs.declared.failure.Failure.TheVariants as failures
use Rattle.mp4_walk.specs.declared.tree_box.TreeBox.{TreeBox}

-- what the text of a box is, and its mark
abbrev pub BoxText : Type 1
BoxText = TreeBox → List ℕ → Bool → Type 0

-- the texts of boxes in order, and whether one of them is marked
abbrev pub InTurn : BoxText → List TreeBox → List ℕ → Bool → Type 0
InTurn tells [] text marked = (text ≡ []) × (marked ≡ false)
InTurn tells (found ∷ boxes) text marked =
    (first rest : List ℕ) × (here there : Bool) × tells found first here × InTurn tells boxes rest there
    × (text ≡ first ++ rest) × (marked ≡ (here || there))

-- the text of a box is written; after a failed write a beginning of it, and after another failure nothing
abbrev pub WritesOne : BoxText → TreeBox → Option (List ℕ) → Option (List ℕ) → Result Bool Failure → Type 0
WritesOne tells found old new (Ok marked) = (text : List ℕ) × tells found text marked × Appends old new text
WritesOne tells found old new (Err failures.Write) =
    (text : List ℕ) × (marked : Bool) × (k : ℕ) × tells found text marked × Appends old new (take k text)
WritesOne tells found old new (Err failures.Read) = Appends old new []
WritesOne tells found old new (Err failures.Memory) = Appends old new []

-- the texts of the first `n` boxes are written, and nothing after them
abbrev pub WritesFirst : BoxText → List TreeBox → Option (List ℕ) → Option (List ℕ) → Type 0
WritesFirst tells boxes old new =
    (n : ℕ) × (text : List ℕ) × (marked : Bool) × InTurn tells (take n boxes) text marked × Appends old new text

-- a beginning of the texts of boxes is written: the first `k` bytes of the texts of the first `n` boxes
abbrev pub BeginsInTurn : BoxText → List TreeBox → Option (List ℕ) → Option (List ℕ) → Type 0
BeginsInTurn tells boxes old new =
    (n k : ℕ) × (text : List ℕ) × (marked : Bool) × InTurn tells (take n boxes) text marked
    × Appends old new (take k text)

-- the texts of boxes are written; after a failed write a beginning of them, and after another failure the whole texts
-- of the first ones
abbrev pub WritesInTurn : BoxText → List TreeBox → Option (List ℕ) → Option (List ℕ) → Result Bool Failure → Type 0
WritesInTurn tells boxes old new (Ok marked) =
    (text : List ℕ) × InTurn tells boxes text marked × Appends old new text
WritesInTurn tells boxes old new (Err failures.Write) = BeginsInTurn tells boxes old new
WritesInTurn tells boxes old new (Err failures.Read) = WritesFirst tells boxes old new
WritesInTurn tells boxes old new (Err failures.Memory) = WritesFirst tells boxes old new
