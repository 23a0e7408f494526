-- The changes of a file, as rows for C.
use Rattle.std.specs.Prelude.{ℕ, ◌≡◌, ◌+◌, ◌<◌, ◌≤◌, ◌==◌, ◌⊎◌, Bool, true, false, List, codes, length, take}
use Rattle.std.specs.Prelude.{drop, None, Some, if◌then◌else◌}
use Rattle.std.specs.List.{AllZip, flat_map}
use Rattle.std.specs.declared.option.Option.{Option}
use Rattle.mp4_c.specs.declared.change.ChangeRow.{ChangeRow}
use Rattle.mp4_c.specs.declared.change.TheConstants as kinds
use Rattle.mp4_c.specs.declared.text_part.TextPart.{TextPart}
use Rattle.mp4_frame.specs.FourCC.{four_cc_of}
use Rattle.mp4_frame.specs.declared.codes.TheConstants as known
use Rattle.mp4_frame.specs.declared.four_cc.FourCC.{FourCC}
use Rattle.mp4_remux.specs.Sized.{sized_boxes}
use Rattle.mp4_remux.specs.Tags.{cover_box, data_box, packed_language}
use Rattle.mp4_remux.specs.declared.edits.edit.Edit.{Edit}
use Rattle.mp4_remux.specs.declared.edits.edit.Edit.TheVariants.{Remove, Replace, Insert, Hide}
use Rattle.mp4_remux.specs.declared.edits.edit.Parent.{Parent}
use Rattle.mp4_remux.specs.declared.edits.edit.Parent.TheVariants as levels
use Rattle.mp4_remux.specs.declared.edits.shortcut.Shortcut.{Shortcut}
use Rattle.mp4_remux.specs.declared.edits.shortcut.Shortcut.TheVariants as shortcuts
use Rattle.mp4_remux_files.specs.Tasks.{MakesChanges}
use Rattle.mp4_remux_files.specs.declared.task.Done.{Done}
use Rattle.mp4_walk.specs.PathText.{ArePathParts}
use Rattle.mp4_walk.specs.declared.path.BoxPath.{BoxPath}

-- the part of the data D has these bytes, and D has all of them
abbrev pub IsIn : List ℕ → TextPart → List ℕ → Type 0
IsIn D p bytes = (p.position + p.length ≤ length D) × (bytes ≡ take p.length (drop p.position D))

-- the part is the text of this path
abbrev pub HasPath : List ℕ → TextPart → BoxPath → Type 0
HasPath D p path = (text : List ℕ) × IsIn D p text × ArePathParts text path.parts.items

-- the part is the text of this level: `/` is the file
abbrev pub HasLevel : List ℕ → TextPart → Parent → Type 0
HasLevel D p levels.File = IsIn D p (codes "/")
HasLevel D p (levels.In path) = HasPath D p path

-- the place before box n, or after the last box
abbrev pub place_of : ℕ → Option ℕ
place_of n = if n == kinds.LAST then None else Some n

-- the bytes are boxes with a size each, or one such box
abbrev pub AreBoxes : Bool → List ℕ → Type 0
AreBoxes true bytes = sized_boxes bytes ≡ Some 1
AreBoxes false bytes = (n : ℕ) × (sized_boxes bytes ≡ Some n) × (0 < n)

abbrev pub code_bytes : FourCC → List ℕ
code_bytes c = c.value

-- the row asks for this edit
abbrev pub IsEditBy : List ℕ → ChangeRow → Edit → Type 0
IsEditBy D r (Remove path) = (r.kind ≡ kinds.REMOVE) × HasPath D r.path path
IsEditBy D r (Replace path bytes) =
    (r.kind ≡ kinds.REPLACE) × HasPath D r.path path × IsIn D r.bytes bytes.items × AreBoxes true bytes.items
IsEditBy D r (Insert level before bytes) =
    (r.kind ≡ kinds.INSERT) × HasLevel D r.path level × (before ≡ place_of r.number) × IsIn D r.bytes bytes.items
    × AreBoxes false bytes.items
IsEditBy D r (Hide at id) = ⊥

-- the row asks for a tag with this text
abbrev pub IsTagBy : List ℕ → ChangeRow → FourCC → List ℕ → Type 0
IsTagBy D r key value =
    (r.kind ≡ kinds.TAG) × (key ≡ four_cc_of r.value)
    × ((text : List ℕ) × IsIn D r.bytes text × (value ≡ data_box 1 text))

-- the row asks for a cover with this picture
abbrev pub IsCoverBy : List ℕ → ChangeRow → FourCC → List ℕ → Type 0
IsCoverBy D r key value =
    (r.kind ≡ kinds.COVER) × (key ≡ four_cc_of known.COVR)
    × ((picture : List ℕ) × IsIn D r.bytes picture × (cover_box picture ≡ Some value))

-- the row asks for this change
abbrev pub IsChange : List ℕ → ChangeRow → Shortcut → Type 0
IsChange D r (shortcuts.Edit edit) = IsEditBy D r edit
IsChange D r (shortcuts.Brands brands) =
    (r.kind ≡ kinds.BRANDS) × IsIn D r.bytes (flat_map code_bytes brands.items)
IsChange D r (shortcuts.Language id packed) =
    (r.kind ≡ kinds.LANGUAGE) × (id ≡ r.track_id)
    × ((letters : List ℕ) × IsIn D r.bytes letters × (packed_language letters ≡ Some packed))
IsChange D r (shortcuts.Rotate id degrees) = (r.kind ≡ kinds.ROTATE) × (id ≡ r.track_id) × (degrees ≡ r.value)
IsChange D r (shortcuts.Enable id is_enabled) =
    (r.kind ≡ kinds.ENABLE) × (id ≡ r.track_id) × (r.value ≡ (if is_enabled then 1 else 0))
IsChange D r shortcuts.NoTags = r.kind ≡ kinds.NO_TAGS
IsChange D r (shortcuts.Tag key value) = IsTagBy D r key value.items ⊎ IsCoverBy D r key value.items
IsChange D r (shortcuts.DropTrack id) = (r.kind ≡ kinds.DROP_TRACK) × (id ≡ r.track_id)

-- the file C is the file B with the changes that these rows ask for
abbrev pub MakesEdited : List ℕ → List ChangeRow → List ℕ → Done → List ℕ → Type 0
MakesEdited D rows B done C =
    (changes : List Shortcut) × AllZip (IsChange D) rows changes × MakesChanges B changes done C
