-- The way in which a box is read, by its code and its context: the box around it and the handler of its media.
use Rattle.std.specs.Prelude.{ℕ, Bool, false, not, ◌+◌, ◌-◌, ◌^◌, ◌==◌, ◌&&◌, ◌||◌, min, nat_le, None, Some}
use Rattle.std.specs.Prelude.{if◌then◌else◌}
use Rattle.std.specs.declared.option.Option.{Option}
use Rattle.mp4_frame.specs.BoxType.{name_of}
use Rattle.mp4_frame.specs.declared.box_type.BoxType.{BoxType}
use Rattle.mp4_frame.specs.declared.box_type.BoxType.TheVariants as names
use Rattle.mp4_frame.specs.FourCC.{number_of}
use Rattle.mp4_frame.specs.declared.codes.TheConstants as codes
use Rattle.mp4_frame.specs.declared.four_cc.FourCC.{FourCC}
use Rattle.mp4_content.specs.declared.kind.Kind.{Kind}
use Rattle.mp4_content.specs.declared.kind.Kind.TheVariants as kinds
use Rattle.mp4_content.specs.Terminator.{may_end}
use Rattle.mp4_walk.specs.declared.fronts.Front.{Front}
use Rattle.mp4_walk.specs.declared.fronts.Front.TheVariants as fronts
use Rattle.mp4_walk.specs.declared.walk_context.WalkContext.{WalkContext}
use Rattle.mp4_walk.specs.declared.tree_box.TreeBox.{TreeBox}
use Rattle.mp4_walk.specs.declared.tree_box.BoxState.{BoxState}
use Rattle.mp4_walk.specs.declared.tree_box.BoxState.TheVariants as states

-- a sample entry has the fields of video or of sound (ISO/IEC 14496-12, 12.1.3 and 12.2.3); timed text is read whole
abbrev pub entry_kind : Option Front → Kind
entry_kind (Some fronts.VideoEntry) = kinds.Visual
entry_kind (Some fronts.SoundEntry) = kinds.Sound
entry_kind (Some fronts.QuickTimeSound1) = kinds.Sound
entry_kind (Some fronts.QuickTimeSound2) = kinds.Sound
entry_kind (Some fronts.TextEntry) = kinds.Known names.Tx3gBox
entry_kind _ = kinds.Entry

-- a box that is another one than the declared box of its code, by the box around it
abbrev pub is_another : ℕ → WalkContext → Bool
is_another code s =
    if code == codes.ALAC then s.parent == codes.STSD else
    if code == codes.TEXT then not (s.parent == codes.GMHD) else
    if (code == codes.MEAN) || (code == codes.TAG_NAME) then not (s.parent == codes.FREE_FORM) else false

-- a box that the walk does not enter is read whole, if its name is known; a data reference is read by its bytes; an
-- `mp4a` in a `wave` is not a sample entry
abbrev pub leaf_kind : (BoxType → Bool) → ℕ → Option Front → WalkContext → Kind
leaf_kind known code front s =
    if code == codes.URL then kinds.Reference else
    if code == codes.UUID then kinds.Uuid else
    if (code == codes.MP4A) && (s.parent == codes.WAVE) then kinds.Unread else
    if not (is_another code s) && known (name_of code) then kinds.Known (name_of code) else
    if s.parent == codes.STSD then entry_kind front else kinds.Unread

-- in a box that the walk enters, the fields before its first child are read
abbrev pub parent_kind : ℕ → Option Front → ℕ → WalkContext → Kind
parent_kind code front before s =
    if s.parent == codes.STSD then entry_kind front else
    if nat_le 8 before && ((code == codes.STSD) || (code == codes.DREF)) then kinds.List else
    if nat_le 4 before && (code == codes.META) then kinds.Full else kinds.Boxes

-- the number of bytes before the first child of a box, or 0 if the walk does not enter it
abbrev pub bytes_before : TreeBox → Option ℕ → ℕ
bytes_before found None = 0
bytes_before found (Some first) = first - min (found.position + found.header_length) (2 ^ 64 - 1)

abbrev pub kind_of_what : (BoxType → Bool) → TreeBox → ℕ → BoxState → Kind
kind_of_what known found code states.Cut = kinds.Cut
kind_of_what known found code states.NoHeader = kinds.Cut
kind_of_what known found code states.Small = kinds.Small
kind_of_what known found code states.TooDeep = kinds.Deep
kind_of_what known found code states.Parent =
    parent_kind code found.front (bytes_before found found.children) found.context
kind_of_what known found code states.Leaf = leaf_kind known code found.front found.context

-- bytes without a whole header are cut, unless they are the last four bytes of a box that four zero bytes may end
abbrev pub end_kind : ℕ → WalkContext → Kind
end_kind long s = if (long == 4) && may_end s then kinds.Terminator else kinds.Cut

abbrev pub kind_of_code : (BoxType → Bool) → TreeBox → Option FourCC → Kind
kind_of_code known found None = end_kind found.length found.context
kind_of_code known found (Some code) = kind_of_what known found (number_of code) found.state

-- how a box is read, if these names are known
abbrev pub kind_of : (BoxType → Bool) → TreeBox → Kind
kind_of known found = kind_of_code known found found.code
