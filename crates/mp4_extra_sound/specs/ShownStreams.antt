-- The events of the independent streams of Enhanced AC-3 (ETSI TS 102 366, F.6).
use Rattle.std.specs.Prelude.{ℕ, ◌+◌, ◌/◌, ◌%◌, ◌==◌, min, List, false, if◌then◌else◌, slice_index}
use Rattle.mp4_declared.specs.Bits.{split}
use Rattle.mp4_frame.specs.Bytes.{number}
use Rattle.mp4_shown.specs.Event.{Event}
use Rattle.mp4_shown.specs.Members.{AreMembers, members_if, whole_numbers}
use Rattle.mp4_shown.specs.Numbers.{shown_numbers}
use Rattle.mp4_extra_sound.specs.declared.dec3.TheConstants.{STREAM, STREAM_WIDTHS, PARENT, PARENT_WIDTHS}

-- the number of streams that depend on the one at the front of some bytes
abbrev pub dependents : List ℕ → ℕ
dependents xs = slice_index xs 2 / 2 % 16

-- a stream has three bytes, and a fourth with the locations of channels if others depend on it
abbrev pub stream_size : List ℕ → ℕ
stream_size xs = 3 + min (dependents xs) 1

abbrev alone : List ℕ → List Event
alone xs = shown_numbers false STREAM.now (split STREAM_WIDTHS (number xs 0 3))

abbrev parent : List ℕ → List Event
parent xs = shown_numbers false PARENT.now (split PARENT_WIDTHS (number xs 0 4))

abbrev pub shown_stream : List ℕ → List Event
shown_stream xs = if dependents xs == 0 then alone xs else parent xs

pub whole_stream : (xs : List ℕ) → AreMembers (shown_stream xs)
whole_stream xs =
    members_if (dependents xs == 0) (alone xs) (parent xs)
    (whole_numbers STREAM.now (split STREAM_WIDTHS (number xs 0 3)))
    (whole_numbers PARENT.now (split PARENT_WIDTHS (number xs 0 4)))
