-- The lines of a field of the boxes at a pattern, as they are written, and what was found.
use Rattle.std.specs.Prelude.{◌≡◌, ℕ, Bool, List, Option, Result, Ok, Err, if◌then◌else◌}
use Rattle.std.specs.Io.KnownBytes.{Appends}
use Rattle.mp4_frame.specs.Reading.{Reading}
use Rattle.mp4_frame.specs.declared.box_type.BoxType.{BoxType}
use Rattle.mp4_inspect.specs.FieldLines.{TellsLine}
use Rattle.mp4_inspect.specs.InTurn.{InTurn, WritesInTurn}
use Rattle.mp4_inspect.specs.Patterns.{boxes_at, has_box}
use Rattle.mp4_inspect.specs.declared.get.Got.{Got}
use Rattle.mp4_inspect.specs.declared.get.Got.TheVariants as finds
use Rattle.mp4_inspect.specs.declared.pattern.Pattern.{Pattern}
use Rattle.mp4_io.specs.declared.failure.Failure.{Failure}
use Rattle.mp4_shown.specs.Event.{Event}
use Rattle.mp4_shown.specs.declared.view.View.{View}
use Rattle.mp4_walk.specs.FileBoxes.{boxes_of}

-- what was found, by whether there is a box and whether one has the field
abbrev pub field_got : Bool → Bool → Got
field_got any has_field = if has_field then finds.Sound else if any then finds.NoField else finds.Nowhere

-- the lines of a field of the boxes at a pattern are written; after a failed write a beginning of them, and after
-- another failure the whole lines of the first boxes
abbrev pub WritesFields : {A : Type 0} → (BoxType → Bool) → (BoxType → List ℕ → ℕ → ℕ → Reading A)
    → (View → A → List Event) → List ℕ → Pattern → List ℕ → Option (List ℕ) → Option (List ℕ) → Result Got Failure
    → Type 0
WritesFields known reading shown field pattern file old new (Ok found) =
    (text : List ℕ) × (any : Bool)
    × InTurn (TellsLine known reading shown field file) (boxes_at pattern (boxes_of file)) text any
    × Appends old new text × (found ≡ field_got (has_box pattern file) any)
WritesFields known reading shown field pattern file old new (Err failure) =
    WritesInTurn (TellsLine known reading shown field file) (boxes_at pattern (boxes_of file)) old new (Err failure)
