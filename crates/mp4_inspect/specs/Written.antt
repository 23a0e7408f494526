-- The text of a file. The bytes that a writer has are `Some` if they are known. Nothing is claimed of unknown bytes.
use Rattle.std.specs.Prelude.{◌≡◌, ℕ, ◌||◌, Bool, false, List, [], ◌∷◌, ◌++◌, take, ◌⊎◌}
use Rattle.std.specs.declared.option.Option.{Option}
use Rattle.std.specs.Io.KnownBytes.{Appends}
use Rattle.mp4_frame.specs.Reading.{Reading}
use Rattle.mp4_frame.specs.declared.box_type.BoxType.{BoxType}
use Rattle.mp4_content.specs.Content.{ShowsAs, is_faulty}
use Rattle.mp4_content.specs.Kind.{kind_of}
use Rattle.mp4_content.specs.declared.content.Content.{Content}
use Rattle.mp4_inspect.specs.TreeLines.{IsText}
use Rattle.mp4_show.specs.declared.look.Look.{Look}
use Rattle.mp4_shown.specs.Event.{Event}
use Rattle.mp4_shown.specs.declared.view.View.{View}
use Rattle.mp4_walk.specs.FileBoxes.{boxes_of}
use Rattle.mp4_walk.specs.declared.tree_box.TreeBox.{TreeBox}

-- the text of this box in this look, and whether it shows a fault; its content is read by its kind
abbrev pub Tells : {A : Type 0} → (BoxType → Bool) → (BoxType → List ℕ → ℕ → ℕ → Reading A)
    → (View → A → List Event) → Look → List ℕ → TreeBox → List ℕ → Bool → Type 0
Tells {A} known reading shown look bytes found text faulty =
    (content : Content A) × IsText shown look found content text
    × ShowsAs known reading bytes found (kind_of known found) content × (faulty ≡ is_faulty content)

-- the texts of boxes in order, and whether one of them shows a fault
abbrev pub TellsAll : {A : Type 0} → (BoxType → Bool) → (BoxType → List ℕ → ℕ → ℕ → Reading A)
    → (View → A → List Event) → Look → List ℕ → List TreeBox → List ℕ → Bool → Type 0
TellsAll known reading shown look bytes [] text faulty = (text ≡ []) × (faulty ≡ false)
TellsAll known reading shown look bytes (found ∷ boxes) text faulty =
    (first rest : List ℕ) × (here there : Bool) × Tells known reading shown look bytes found first here
    × TellsAll known reading shown look bytes boxes rest there
    × (text ≡ first ++ rest) × (faulty ≡ (here || there))

-- the text of this box is written, and whether it shows a fault
abbrev pub WritesBox : {A : Type 0} → (BoxType → Bool) → (BoxType → List ℕ → ℕ → ℕ → Reading A)
    → (View → A → List Event) → Look → List ℕ → TreeBox → Option (List ℕ) → Option (List ℕ) → Bool → Type 0
WritesBox known reading shown look bytes found old new faulty =
    (text : List ℕ) × Tells known reading shown look bytes found text faulty × Appends old new text

-- nothing or a beginning of the text of this box is written
abbrev pub BeginsBox : {A : Type 0} → (BoxType → Bool) → (BoxType → List ℕ → ℕ → ℕ → Reading A)
    → (View → A → List Event) → Look → List ℕ → TreeBox → Option (List ℕ) → Option (List ℕ) → Type 0
BeginsBox known reading shown look bytes found old new = Appends old new []
    ⊎ ((text : List ℕ) × (faulty : Bool) × (k : ℕ) × Tells known reading shown look bytes found text faulty
    × Appends old new (take k text))

-- the texts of these boxes are written, and a fault is shown if and only if there is one
abbrev pub WritesBoxes : {A : Type 0} → (BoxType → Bool) → (BoxType → List ℕ → ℕ → ℕ → Reading A)
    → (View → A → List Event) → Look → List ℕ → List TreeBox → Option (List ℕ) → Option (List ℕ) → Bool → Type 0
WritesBoxes known reading shown look bytes boxes old new faulty =
    (text : List ℕ) × TellsAll known reading shown look bytes boxes text faulty × Appends old new text

-- a beginning of the texts of these boxes is written: the first `k` bytes of the texts of the first `n` boxes
abbrev pub BeginsBoxes : {A : Type 0} → (BoxType → Bool) → (BoxType → List ℕ → ℕ → ℕ → Reading A)
    → (View → A → List Event) → Look → List ℕ → List TreeBox → Option (List ℕ) → Option (List ℕ) → Type 0
BeginsBoxes known reading shown look bytes boxes old new =
    (n k : ℕ) × (text : List ℕ) × (faulty : Bool)
    × TellsAll known reading shown look bytes (take n boxes) text faulty
    × Appends old new (take k text)

-- a heading is written, and then the texts of the boxes of a file
abbrev pub WritesFile : {A : Type 0} → (BoxType → Bool) → (BoxType → List ℕ → ℕ → ℕ → Reading A)
    → (View → A → List Event) → Look → List ℕ → List ℕ → Option (List ℕ) → Option (List ℕ) → Bool → Type 0
WritesFile known reading shown look heading bytes old new faulty =
    (text : List ℕ) × TellsAll known reading shown look bytes (boxes_of bytes) text faulty
    × Appends old new (heading ++ text)

-- a beginning of these is written: the first `k` bytes of the heading and the texts of the first `n` boxes
abbrev pub BeginsFile : {A : Type 0} → (BoxType → Bool) → (BoxType → List ℕ → ℕ → ℕ → Reading A)
    → (View → A → List Event) → Look → List ℕ → List ℕ → Option (List ℕ) → Option (List ℕ) → Type 0
BeginsFile known reading shown look heading bytes old new =
    (n k : ℕ) × (text : List ℕ) × (faulty : Bool)
    × TellsAll known reading shown look bytes (take n (boxes_of bytes)) text faulty
    × Appends old new (take k (heading ++ text))
