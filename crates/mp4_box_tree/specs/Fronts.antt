-- The fields before the boxes of a container, by the rule of mp4_walk. A tree knows a box, and nothing around it.
use Rattle.std.specs.Prelude.{ℕ, ◌+◌, ◌==◌, ◌||◌, Bool, nat_le, ◌&&◌, List, length, None, Some}
use Rattle.std.specs.Prelude.{if◌then◌else◌}
use Rattle.std.specs.declared.option.Option.{Option}
use Rattle.mp4_frame.specs.Bytes.{number}
use Rattle.mp4_frame.specs.declared.codes.TheConstants as codes
use Rattle.mp4_walk.specs.Fronts.{is_video, is_sound, length_of, is_present, sound_front, front_of}
use Rattle.mp4_walk.specs.Peek.{peek, number_or_zero, no_content}
use Rattle.mp4_walk.specs.declared.fronts.Front.{Front}
use Rattle.mp4_walk.specs.declared.walk_context.WalkContext.{WalkContext}
use Rattle.mp4_box_tree.specs.EntryCodes.{is_item, is_more_sound, is_more_video}

unfoldable pub is_video_entry : ℕ → Bool
is_video_entry code = is_video code || is_more_video code

unfoldable pub is_sound_entry : ℕ → Bool
is_sound_entry code = is_sound code || is_more_sound code

-- entries that are neither video nor sound and have only the fields of any entry before their boxes
abbrev pub is_plain_entry : ℕ → Bool
is_plain_entry code = (code == codes.WVTT) || ((code == codes.MP4S) || (code == codes.URIM))

abbrev pub is_other_entry : ℕ → Bool
is_other_entry code = (code == codes.TX3G) || is_plain_entry code

abbrev pub is_entry : ℕ → Bool
is_entry code = is_video_entry code || (is_sound_entry code || is_other_entry code)

-- the box around a box, by the code of the box: a tree takes a box with the code of an entry or of an item for one, and
-- a `tmcd` for the box of this name in a `gmhd`
abbrev pub parent_of : ℕ → ℕ
parent_of code =
    if is_entry code then codes.STSD else if is_item code then codes.ILST else
    if code == codes.TMCD then codes.GMHD else 0

-- the handler of the media around a box, by the code of the box
abbrev pub handler_of : ℕ → ℕ
handler_of code = if is_video_entry code then codes.VIDE else if is_sound_entry code then codes.SOUN else 0

-- the context in which a tree reads a box
abbrev pub context_of : ℕ → WalkContext
context_of code = record { parent = parent_of code; handler = handler_of code; stsd_version = 0 }

-- a container holds boxes with this code. No bytes of the content change that
unfoldable pub is_parent : ℕ → Bool
is_parent code = is_present (front_of (context_of code) code no_content)

-- the fields before the boxes in a content
abbrev pub front_in : ℕ → List ℕ → Option Front
front_in code content = front_of (context_of code) code (peek content 0 (length content))

abbrev pub length_if_any : Option Front → ℕ
length_if_any None = 0
length_if_any (Some f) = length_of f

-- the number of bytes before the boxes in a content
unfoldable pub width_in : ℕ → List ℕ → ℕ
width_in code content = length_if_any (front_in code content)

-- the bytes of fields have the length that their own bytes determine
abbrev pub is_front : ℕ → List ℕ → Bool
is_front code fields = length fields == width_in code fields

-- the number of bytes of a sound entry, whose version is at offset 8 (ISO/IEC 14496-12, 12.2.3; QuickTime File Format,
-- "Sound sample descriptions")
unfoldable pub audio_fields : List ℕ → ℕ
audio_fields content = length_of (sound_front 0 (number_or_zero content (length content) (0 + 8) 2))

-- the bytes start with four zeros, as no box inside another one does
unfoldable pub begins_with_zeros : List ℕ → Bool
begins_with_zeros content = nat_le 4 (length content) && (number content 0 4 == 0)
