-- The output of `info` for a file.
use Rattle.std.specs.Prelude.{◌≡◌, ℕ, ◌++◌, not, Bool, List}
use Rattle.std.specs.declared.option.Option.{Option}
use Rattle.std.specs.Io.KnownBytes.{Appends}
use Rattle.mp4_info.specs.Facts.{InfoReadings, IsFile, is_known}
use Rattle.mp4_info.specs.FileJson.{IsFileJson}
use Rattle.mp4_info.specs.declared.facts.FileFacts.{FileFacts}
use Rattle.mp4_inspect.specs.Json.{comma}

-- Lines about the facts of a file with these bytes are written: any text, which tests compare. `unknown` says whether a
-- main value is not known.
pub record WritesInfo (r : InfoReadings) (bytes : List ℕ) (old new : Option (List ℕ)) (unknown : Bool) : Type 0 where
  pub facts : FileFacts
  pub text : List ℕ
  pub of_file : IsFile r bytes facts
  pub writes : Appends old new text
  pub is_unknown : unknown ≡ not (is_known facts)

-- the JSON object of these facts is written, after a comma if it follows another
abbrev pub WritesObject : List ℕ → FileFacts → Bool → Option (List ℕ) → Option (List ℕ) → Type 0
WritesObject name facts follows old new =
    (text : List ℕ) × IsFileJson name facts text × Appends old new (comma follows ++ text)

pub record WritesInfoJson (r : InfoReadings) (bytes name : List ℕ) (follows : Bool) (old new : Option (List ℕ))
    (unknown : Bool) : Type 0 where
  pub facts : FileFacts
  pub of_file : IsFile r bytes facts
  pub writes : WritesObject name facts follows old new
  pub is_unknown : unknown ≡ not (is_known facts)
