-- The bytes of a box of which fields are set: those of the box that is read back from the JSON of its fields, in which
-- these fields are changed. Or the reason why no field is set.
use Rattle.std.specs.Prelude.{◌≡◌, ◌≢◌, ◌⊎◌, ℕ, Bool, List, [], ◌∷◌, Option, None, Some, Ok, Err, string_bytes}
use Rattle.json.specs.Json.{Json, document}
use Rattle.json.specs.Print.{print}
use Rattle.mp4_content.specs.ChangedJson.{set_text}
use Rattle.mp4_content.specs.Content.{ShowsAs, leaf}
use Rattle.mp4_content.specs.Fields.{json_view, object_tokens}
use Rattle.mp4_content.specs.Kind.{kind_of}
use Rattle.mp4_content.specs.declared.content.Content.{Content}
use Rattle.mp4_content.specs.declared.content.Content.TheVariants as contents
use Rattle.mp4_content.specs.declared.kind.Kind.TheVariants as kinds
use Rattle.mp4_content.specs.declared.setting.SetError.{SetError}
use Rattle.mp4_content.specs.declared.setting.SetError.TheVariants as reasons
use Rattle.mp4_content.specs.declared.setting.Setting.{Setting}
use Rattle.mp4_frame.specs.Format.{Format}
use Rattle.mp4_frame.specs.FourCC.{number_of}
use Rattle.mp4_frame.specs.Reading.{Reading}
use Rattle.mp4_frame.specs.declared.box_type.BoxType.{BoxType}
use Rattle.mp4_frame.specs.declared.four_cc.FourCC.{FourCC}
use Rattle.mp4_io.specs.declared.failure.Failure.TheVariants as failures
use Rattle.mp4_shown.specs.Event.{Event}
use Rattle.mp4_shown.specs.Taking.{Taking, ◌>>=◌}
use Rattle.mp4_shown.specs.declared.taken.error.Error.{Error}
use Rattle.mp4_shown.specs.declared.taken.error.Error.TheVariants as errors
use Rattle.mp4_shown.specs.declared.view.View.{View}
use Rattle.mp4_walk.specs.Source.{piece}
use Rattle.mp4_walk.specs.declared.tree_box.TreeBox.{TreeBox}

-- the reason that an error of taking is
abbrev pub reason_of : Error → SetError
reason_of errors.OutOfMemory = reasons.Failed failures.Memory
reason_of (errors.Refused refusal) = reasons.Refused refusal

-- a JSON text with several fields set, one after the other
abbrev pub set_all : List Setting → List ℕ → Taking (List ℕ)
set_all [] text = Ok text
set_all (s ∷ ss) text =
    set_text (string_bytes s.field) (string_bytes s.value) text >>= set_all ss

-- the JSON text of fields
abbrev pub fields_text : List Event → List ℕ
fields_text es = print (object_tokens es)

-- what is taken is refused for this reason; memory may be refused instead
abbrev pub IsRefused : {A : Type 0} → Taking A → SetError → Type 0
IsRefused taking (reasons.Refused refusal) = taking ≡ Err (string_bytes refusal.path, refusal.reason)
IsRefused taking (reasons.Failed failure) = failure ≡ failures.Memory
IsRefused taking _ = ⊥

-- these are the bytes of the box that is read back from a text
abbrev pub IsBoxOf : {A : Type 0} → (Option Json → Taking (Option A)) → Format A → List ℕ → List ℕ → Type 0
IsBoxOf {A} read format text out =
    (v : A) × (read (document text) ≡ Ok (Some v)) × format.Writable v × (out ≡ format.bytes v)

-- no box is read back from a text, or it can't be written
abbrev pub IsNoBox : {A : Type 0} → (Option Json → Taking (Option A)) → Format A → List ℕ → SetError → Type 0
IsNoBox read format text reasons.NoFields = read (document text) ≡ Ok None
IsNoBox {A} read format text reasons.TooLarge =
    (v : A) × (read (document text) ≡ Ok (Some v)) × ¬ format.Writable v
IsNoBox read format text reason = IsRefused (read (document text)) reason

-- The box with these fields is written in its own bytes, and these are its bytes after the settings.
abbrev pub SetsKnown : {A : Type 0} → (Option Json → Taking (Option A)) → Format A → List Event → List ℕ
    → List Setting → List ℕ → Type 0
SetsKnown read format es own settings out =
    IsBoxOf read format (fields_text es) own
    × ((text : List ℕ) × (set_all settings (fields_text es) ≡ Ok text) × IsBoxOf read format text out)

-- a setting of these fields is refused, or no box is read back after the settings
abbrev pub IsUnsettable : {A : Type 0} → (Option Json → Taking (Option A)) → Format A → List Event → List Setting
    → SetError → Type 0
IsUnsettable read format es settings reason =
    IsRefused (set_all settings (fields_text es)) reason
    ⊎ ((text : List ℕ) × (set_all settings (fields_text es) ≡ Ok text) × IsNoBox read format text reason)

-- No field of the box with these fields is set, for this reason: it isn't read back from them, or is written in other
-- bytes, or has no bytes after the settings.
abbrev pub IsUnset : {A : Type 0} → (Option Json → Taking (Option A)) → Format A → List Event → List ℕ
    → List Setting → SetError → Type 0
IsUnset read format es own settings reason =
    IsNoBox read format (fields_text es) reason
    ⊎ ((same : List ℕ) × IsBoxOf read format (fields_text es) same × (same ≢ own) × (reason ≡ reasons.OtherBytes))
    ⊎ (IsBoxOf read format (fields_text es) own × IsUnsettable read format es settings reason)

-- the bytes of a box of a file
abbrev pub own_bytes : List ℕ → TreeBox → List ℕ
own_bytes file found = piece file found.position found.length

-- These are the bytes of a box of a file after the settings. The box is read whole, as it is shown.
abbrev pub SetsFields : {A : Type 0} → (BoxType → Bool) → (BoxType → List ℕ → ℕ → ℕ → Reading A)
    → (View → A → List Event) → (ℕ → Option Json → Taking (Option A)) → Format A → List ℕ → TreeBox
    → List Setting → List ℕ → Type 0
SetsFields {A} known reading shown read format file found settings out =
    (name : BoxType) × (kind_of known found ≡ kinds.Known name)
    × ((code : FourCC) × (found.code ≡ Some code)
    × ((v : A) × ((leaf reading name (own_bytes file found) 0).outcome ≡ Ok v)
    × SetsKnown (read (number_of code)) format (shown json_view v) (own_bytes file found) settings out))

-- No field of a box with this content is set, for this reason. Only a box that is read whole has fields that can be
-- set.
abbrev pub IsContentUnset : {A : Type 0} → (Option Json → Taking (Option A)) → Format A → (A → List Event) → List ℕ
    → List Setting → Content A → SetError → Type 0
IsContentUnset read format shown own settings (contents.Known v) reason =
    IsUnset read format (shown v) own settings reason
IsContentUnset read format shown own settings (contents.Faulty fault) reason = reason ≡ reasons.Faulty fault
IsContentUnset read format shown own settings _ reason = reason ≡ reasons.NoFields

-- the file can't be read, or memory is refused
abbrev pub IsFailure : SetError → Type 0
IsFailure (reasons.Failed failure) = failure ≢ failures.Write
IsFailure _ = ⊥

-- No field of a box of a file is set, for this reason, by its code. Its content is the one that is shown.
abbrev pub SetsNoneAt : {A : Type 0} → (BoxType → Bool) → (BoxType → List ℕ → ℕ → ℕ → Reading A)
    → (A → List Event) → (ℕ → Option Json → Taking (Option A)) → Format A → List ℕ → TreeBox
    → List Setting → Option FourCC → SetError → Type 0
SetsNoneAt known reading shown read format file found settings None reason = reason ≡ reasons.NoFields
SetsNoneAt {A} known reading shown read format file found settings (Some code) reason =
    IsFailure reason
    ⊎ ((content : Content A) × ShowsAs known reading file found (kind_of known found) content
    × IsContentUnset (read (number_of code)) format shown (own_bytes file found) settings content reason)

-- no field of a box of a file is set, for this reason
abbrev pub SetsNone : {A : Type 0} → (BoxType → Bool) → (BoxType → List ℕ → ℕ → ℕ → Reading A)
    → (View → A → List Event) → (ℕ → Option Json → Taking (Option A)) → Format A → List ℕ → TreeBox
    → List Setting → SetError → Type 0
SetsNone known reading shown read format file found settings reason =
    SetsNoneAt known reading (shown json_view) read format file found settings found.code reason
