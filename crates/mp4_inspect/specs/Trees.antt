-- The trees of the boxes at a pattern, as they are written, and what was found.
use Rattle.std.specs.Prelude.{◌≡◌, ℕ, Bool, List, Some}
use Rattle.std.specs.Io.KnownBytes.{Appends}
use Rattle.std.specs.declared.option.Option.{Option}
use Rattle.mp4_frame.specs.Reading.{Reading}
use Rattle.mp4_frame.specs.declared.box_type.BoxType.{BoxType}
use Rattle.mp4_inspect.specs.Json.{IsJson}
use Rattle.mp4_inspect.specs.Patterns.{got_of, has_box, trees_at}
use Rattle.mp4_inspect.specs.Written.{WritesBoxes}
use Rattle.mp4_inspect.specs.declared.get.Got.{Got}
use Rattle.mp4_inspect.specs.declared.pattern.Pattern.{Pattern}
use Rattle.mp4_show.specs.declared.look.Look.{Look}
use Rattle.mp4_shown.specs.Event.{Event}
use Rattle.mp4_shown.specs.declared.view.View.{View}
use Rattle.mp4_walk.specs.FileBoxes.{boxes_of}

-- The texts of the trees are written in this look. A fault is found if and only if one of the boxes has one.
pub record WritesTrees {A : Type 0} (known : BoxType → Bool) (reading : BoxType → List ℕ → ℕ → ℕ → Reading A)
    (shown : View → A → List Event) (look : Look) (pattern : Pattern) (file : List ℕ) (old new : Option (List ℕ))
    (found : Got) : Type 0 where
  pub faulty : Bool
  pub writes : WritesBoxes known reading shown look file (trees_at pattern (boxes_of file)) old new faulty
  pub is_found : found ≡ got_of (has_box pattern file) faulty

-- The JSON of the trees is written, as that of a file which has only these.
pub record WritesTreesJson {A : Type 0} (known : BoxType → Bool) (reading : BoxType → List ℕ → ℕ → ℕ → Reading A)
    (shown : View → A → List Event) (pattern : Pattern) (name file : List ℕ) (old new : Option (List ℕ))
    (found : Got) : Type 0 where
  pub text : List ℕ
  pub faulty : Bool
  pub is_json : IsJson known reading shown (Some file) name (trees_at pattern (boxes_of file)) text faulty
  pub writes : Appends old new text
  pub is_found : found ≡ got_of (has_box pattern file) faulty
