-- The boxes that can't be read: their size, their header or their content breaks the layout (ISO/IEC 14496-12, 4.2, and
-- the section of each box).
use Rattle.std.specs.Prelude.{ℕ, ◌-◌, ◌==◌, ◌&&◌, not, Bool, true, false, nat_lt, List, [], ◌∷◌, length}
use Rattle.std.specs.Prelude.{is_err, None, Some, if◌then◌else◌}
use Rattle.std.specs.Str.{bytes_eq}
use Rattle.std.specs.declared.option.Option.{Option}
use Rattle.mp4_check.specs.declared.fault.What.{What}
use Rattle.mp4_check.specs.declared.fault.What.TheVariants as what
use Rattle.mp4_content.specs.Content.{leaf}
use Rattle.mp4_content.specs.Foreign.{not_mp4}
use Rattle.mp4_content.specs.Kind.{kind_of}
use Rattle.mp4_content.specs.declared.content.Content.{Content}
use Rattle.mp4_content.specs.declared.content.Content.TheVariants as contents
use Rattle.mp4_content.specs.declared.foreign.NotMp4.{NotMp4}
use Rattle.mp4_content.specs.declared.kind.Kind.{Kind}
use Rattle.mp4_content.specs.declared.kind.Kind.TheVariants as kinds
use Rattle.mp4_frame.specs.Reading.{Reading}
use Rattle.mp4_frame.specs.declared.box_type.BoxType.{BoxType}
use Rattle.mp4_frame.specs.declared.error.Error.TheVariants as errors
use Rattle.mp4_walk.specs.Source.{piece}
use Rattle.mp4_walk.specs.declared.tree_box.BoxState.{BoxState}
use Rattle.mp4_walk.specs.declared.tree_box.BoxState.TheVariants as states
use Rattle.mp4_walk.specs.declared.tree_box.TreeBox.{TreeBox}

-- a box with this name has a fault by its own bytes. Boxes of other names are not read
abbrev pub fails : {A : Type 0} → (BoxType → Bool) → (BoxType → List ℕ → ℕ → ℕ → Reading A) → List ℕ → TreeBox
    → BoxType → Bool
fails known reading file x name =
    known name && is_err (leaf reading name (piece file x.position x.length) 0).outcome

-- memory was refused while the content was read, and so it shows no fault of the box
abbrev pub is_refused : {A : Type 0} → Content A → Bool
is_refused (contents.Faulty errors.OutOfMemory) = true
is_refused _ = false

-- the content has fewer bytes than these
abbrev pub has_fewer : TreeBox → ℕ → Bool
has_fewer x least = nat_lt (x.length - x.header_length) least

-- the box has a fault, by how it is read
abbrev pub is_unreadable : {A : Type 0} → (BoxType → Bool) → (BoxType → List ℕ → ℕ → ℕ → Reading A) → List ℕ → TreeBox
    → Kind → Bool
is_unreadable known reading file x kinds.Boxes = false
is_unreadable known reading file x kinds.Deep = false
is_unreadable known reading file x kinds.Unread = false
is_unreadable known reading file x kinds.Cut = true
is_unreadable known reading file x kinds.Small = true
is_unreadable known reading file x (kinds.Known name) = fails known reading file x name
is_unreadable known reading file x kinds.Reference = has_fewer x 4
is_unreadable known reading file x kinds.Full = has_fewer x 4
is_unreadable known reading file x kinds.List = has_fewer x 8
is_unreadable known reading file x kinds.Entry = has_fewer x 8
is_unreadable known reading file x kinds.Visual = has_fewer x 78
is_unreadable known reading file x kinds.Sound = has_fewer x 28
is_unreadable known reading file x kinds.Uuid = has_fewer x 16
is_unreadable known reading file x kinds.Terminator =
    not (bytes_eq (piece file x.position x.length) (0 ∷ 0 ∷ 0 ∷ 0 ∷ []))

abbrev pub is_cut : BoxState → Bool
is_cut states.Cut = true
is_cut _ = false

-- a box of the top level that ends after the file
abbrev pub is_lost : TreeBox → Bool
is_lost x = (x.depth == 0) && is_cut x.state

abbrev pub state_what : BoxState → What
state_what states.Cut = what.Cut
state_what states.NoHeader = what.Cut
state_what states.Small = what.Small
state_what _ = what.Invalid

abbrev pub box_what : ℕ → TreeBox → What
box_what length x = if is_lost x then what.Lost x.length (length - x.position) else state_what x.state

abbrev pub or_foreign : Option NotMp4 → What → What
or_foreign None w = w
or_foreign (Some why) w = what.Foreign why

-- what is wrong with a box that can't be read, in a file of this length
abbrev pub unread_what : ℕ → TreeBox → What
unread_what length x = or_foreign (not_mp4 x) (box_what length x)

-- the fault of a box, if it can't be read
abbrev pub unreadable : {A : Type 0} → (BoxType → Bool) → (BoxType → List ℕ → ℕ → ℕ → Reading A) → List ℕ → TreeBox
    → Option What
unreadable known reading file x =
    if is_unreadable known reading file x (kind_of known x) then Some (unread_what (length file) x) else None
