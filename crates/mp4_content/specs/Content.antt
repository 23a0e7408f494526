-- The content of a box that is shown, by how the box is read, and whether it has a fault.
use Rattle.std.specs.Prelude.{◌≡◌, ◌≢◌, ℕ, ◌+◌, ◌-◌, ◌<◌, ◌≤◌, min, Bool, true, false, List, [], ◌∷◌, length}
use Rattle.std.specs.Prelude.{Ok, MatchBool, codes}
use Rattle.mp4_frame.specs.Heads.{header, header_length}
use Rattle.mp4_frame.specs.Reading.{Reading, Refuses, ◌>>=◌}
use Rattle.mp4_frame.specs.declared.box_type.BoxType.{BoxType}
use Rattle.mp4_frame.specs.declared.error.Error.TheVariants as errors
use Rattle.mp4_content.specs.declared.content.Content.{Content}
use Rattle.mp4_content.specs.declared.content.Content.TheVariants as contents
use Rattle.mp4_content.specs.declared.kind.Kind.{Kind}
use Rattle.mp4_content.specs.declared.kind.Kind.TheVariants as kinds
use Rattle.mp4_walk.specs.Source.{piece}
use Rattle.mp4_walk.specs.declared.tree_box.TreeBox.{TreeBox}

-- the reading of a box from its own bytes only, which end where the box ends; its header is at `o`
abbrev pub leaf : {A : Type 0} → (BoxType → List ℕ → ℕ → ℕ → Reading A) → BoxType → List ℕ → ℕ → Reading A
leaf reading name own o =
    header own o >>= λ _. reading name own (o + header_length own o - 8) (length own - (o + header_length own o - 8))

-- the content shows that the box has a fault
abbrev pub is_faulty : {A : Type 0} → Content A → Bool
is_faulty (contents.Faulty _) = true
is_faulty _ = false

-- the content is the value of a reading, or its fault; memory that is refused is no fault
abbrev pub Shows : {A : Type 0} → Reading A → Content A → Type 0
Shows r (contents.Known v) = r.outcome ≡ Ok v
Shows r (contents.Faulty e) = Refuses e r × (e ≢ errors.OutOfMemory)
Shows r _ = ⊥

-- a box is read whole, if boxes with its name are
abbrev pub ShowsKnown : {A : Type 0} → (BoxType → Bool) → (BoxType → List ℕ → ℕ → ℕ → Reading A) → BoxType → List ℕ
    → TreeBox → Content A → Type 0
ShowsKnown known reading name bytes found content =
    MatchBool (known name) (Shows (leaf reading name (piece bytes found.position found.length) 0) content)
    (content ≡ contents.Unread)

-- the first `n` bytes of the content of a box, or all if there are fewer
abbrev pub front : List ℕ → TreeBox → ℕ → List ℕ
front bytes found most =
    piece bytes (found.position + found.header_length) (min (found.length - found.header_length) most)

-- the front of the content is shown, if it has at least `least` bytes; else there is a fault
abbrev pub ShowsFront : {A : Type 0} → Kind → ℕ → ℕ → List ℕ → TreeBox → Content A → Type 0
ShowsFront kind least most bytes found (contents.Front k v) =
    (k ≡ kind) × (least ≤ found.length - found.header_length) × (v.items ≡ front bytes found most)
ShowsFront kind least most bytes found (contents.Faulty e) =
    (e ≡ errors.IoError) × (found.length - found.header_length < least)
ShowsFront kind least most bytes found _ = ⊥

-- the four zero bytes that end a box are shown, and other bytes are a fault
abbrev pub ShowsEnd : {A : Type 0} → List ℕ → TreeBox → Content A → Type 0
ShowsEnd bytes found (contents.Front k v) =
    (k ≡ kinds.Terminator) × (v.items ≡ piece bytes found.position found.length)
    × (piece bytes found.position found.length ≡ 0 ∷ 0 ∷ 0 ∷ 0 ∷ [])
ShowsEnd bytes found (contents.Faulty e) =
    (e ≡ errors.IoError) × (piece bytes found.position found.length ≢ 0 ∷ 0 ∷ 0 ∷ 0 ∷ [])
ShowsEnd bytes found _ = ⊥

-- the fault of a box whose size is smaller than its header
abbrev pub ShowsSmall : {A : Type 0} → Content A → Type 0
ShowsSmall (contents.Faulty (errors.InvalidData text)) = text.now ≡ codes "box size too small"
ShowsSmall _ = ⊥

-- The content of a box that is shown, by how the box is read.
abbrev pub ShowsAs : {A : Type 0} → (BoxType → Bool) → (BoxType → List ℕ → ℕ → ℕ → Reading A) → List ℕ → TreeBox → Kind
    → Content A → Type 0
ShowsAs known reading bytes found kinds.Boxes content = content ≡ contents.Boxes
ShowsAs known reading bytes found kinds.Deep content = content ≡ contents.Deep
ShowsAs known reading bytes found kinds.Unread content = content ≡ contents.Unread
ShowsAs known reading bytes found kinds.Cut content = content ≡ contents.Faulty errors.IoError
ShowsAs known reading bytes found kinds.Small content = ShowsSmall content
ShowsAs known reading bytes found (kinds.Known name) content = ShowsKnown known reading name bytes found content
ShowsAs known reading bytes found kinds.Reference content =
    ShowsFront kinds.Reference 4 0xFFFFFFFFFFFFFFFF bytes found content
ShowsAs known reading bytes found kinds.Full content = ShowsFront kinds.Full 4 4 bytes found content
ShowsAs known reading bytes found kinds.List content = ShowsFront kinds.List 8 8 bytes found content
ShowsAs known reading bytes found kinds.Entry content = ShowsFront kinds.Entry 8 8 bytes found content
ShowsAs known reading bytes found kinds.Visual content = ShowsFront kinds.Visual 78 78 bytes found content
ShowsAs known reading bytes found kinds.Sound content = ShowsFront kinds.Sound 28 64 bytes found content
ShowsAs known reading bytes found kinds.Uuid content = ShowsFront kinds.Uuid 16 16 bytes found content
ShowsAs known reading bytes found kinds.Terminator content = ShowsEnd bytes found content
