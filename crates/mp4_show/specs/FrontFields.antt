-- The events of the fields that are read from the bytes of a box.
use Rattle.std.specs.Prelude.{ℕ, Bool, List, [], ◌∷◌}
use Rattle.mp4_show.specs.FrontRows.{entry_row, head_row, list_row, reference_row, visual_row}
use Rattle.mp4_show.specs.Row.{number, shown_row, text, whole_row}
use Rattle.mp4_show.specs.SoundFront.{shown_sound, whole_sound}
use Rattle.mp4_show.specs.declared.fields.media.TheConstants.{URL}
use Rattle.mp4_show.specs.declared.fronts.TheConstants.{ENTRY, LIST, TERMINATOR, USERTYPE, VISUAL}
use Rattle.mp4_show.specs.declared.row.TheConstants.{FULL}
use Rattle.mp4_show.specs.declared.sound_front.TheConstants.{COMMON, FIRST, SECOND}
use Rattle.mp4_shown.specs.Event.{Event, Shown}
use Rattle.mp4_shown.specs.Members.{AreMembers}

-- version and flags, in the first 4 bytes
abbrev pub head_fields : List ℕ → List Event
head_fields xs = shown_row FULL.now (head_row xs)

-- those before the boxes of an `stsd` or a `dref`, in the first 8 bytes
abbrev pub list_fields : List ℕ → List Event
list_fields xs = shown_row LIST.now (list_row xs)

-- that of any sample entry, in the first 8 bytes
abbrev pub entry_fields : List ℕ → List Event
entry_fields xs = shown_row ENTRY.now (entry_row xs)

-- those of a sample entry of video, in the first 78 bytes
abbrev pub visual_fields : List ℕ → List Event
visual_fields xs = shown_row VISUAL.now (visual_row xs)

-- those of a sample entry of sound, with this rate in QuickTime's version 2
abbrev pub sound_fields : Bool → List ℕ → Shown → List Event
sound_fields quicktime xs rate = shown_sound COMMON.now FIRST.now SECOND.now quicktime xs rate

-- those of a reference
abbrev pub reference_fields : List ℕ → List Event
reference_fields xs = shown_row URL.now (reference_row xs)

-- the type of a `uuid` box, in these letters
abbrev pub usertype_fields : List ℕ → List Event
usertype_fields letters = shown_row USERTYPE.now (text letters ∷ [])

-- four bytes of 0
abbrev pub terminator_fields : List Event
terminator_fields = shown_row TERMINATOR.now (number 0 ∷ [])

-- all of them are whole members
pub head_whole : (xs : List ℕ) → AreMembers (head_fields xs)
head_whole xs = whole_row FULL.now (head_row xs)

pub list_whole : (xs : List ℕ) → AreMembers (list_fields xs)
list_whole xs = whole_row LIST.now (list_row xs)

pub entry_whole : (xs : List ℕ) → AreMembers (entry_fields xs)
entry_whole xs = whole_row ENTRY.now (entry_row xs)

pub visual_whole : (xs : List ℕ) → AreMembers (visual_fields xs)
visual_whole xs = whole_row VISUAL.now (visual_row xs)

pub sound_whole : (quicktime : Bool) (xs : List ℕ) (rate : Shown) → AreMembers (sound_fields quicktime xs rate)
sound_whole quicktime xs rate = whole_sound COMMON.now FIRST.now SECOND.now quicktime xs rate

pub reference_whole : (xs : List ℕ) → AreMembers (reference_fields xs)
reference_whole xs = whole_row URL.now (reference_row xs)

pub usertype_whole : (letters : List ℕ) → AreMembers (usertype_fields letters)
usertype_whole letters = whole_row USERTYPE.now (text letters ∷ [])

pub terminator_whole : AreMembers terminator_fields
terminator_whole = whole_row TERMINATOR.now (number 0 ∷ [])
