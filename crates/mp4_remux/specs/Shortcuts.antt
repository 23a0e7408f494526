-- The parts of shortcuts that clauses name.
use Rattle.std.specs.Prelude.{ℕ, ◌==◌, IsTrue, List, [], ◌∷◌}
use Rattle.std.specs.List.{list_any}
use Rattle.mp4_remux.specs.declared.edits.edit.Edit.{Edit}
use Rattle.mp4_remux.specs.declared.edits.edit.Edit.TheVariants as edits
use Rattle.mp4_remux.specs.declared.edits.shortcut.Shortcut.{Shortcut}
use Rattle.mp4_remux.specs.declared.edits.shortcut.Shortcut.TheVariants as shortcuts

-- the edit that the shortcut is, if it is one
abbrev pub asked_by : Shortcut → List Edit
asked_by (shortcuts.Edit e) = e ∷ []
asked_by _ = []

-- the shortcut, if it is no edit
abbrev pub other_by : Shortcut → List Shortcut
other_by (shortcuts.Edit e) = []
other_by s = s ∷ []

-- the track_ID of the track that the shortcut drops, if it drops one
abbrev pub dropped_by : Shortcut → List ℕ
dropped_by (shortcuts.DropTrack id) = id ∷ []
dropped_by _ = []

-- the edit hides no box but those of tracks with one of these track_IDs
abbrev pub HidesDropped : List ℕ → Edit → Type 0
HidesDropped ids (edits.Hide at id) = IsTrue (list_any (λ n. n == id) ids)
HidesDropped ids _ = Unit {0}
