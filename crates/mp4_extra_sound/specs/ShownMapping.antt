-- The events of the mapping of channels in Opus (Encapsulation of Opus in ISO Base Media File Format, 4.3.2).
use Rattle.std.specs.Prelude.{ℕ, List, ◌++◌, if◌then◌else◌, nat_lt, length, drop, slice_index}
use Rattle.mp4_shown.specs.Event.{Event}
use Rattle.mp4_shown.specs.Members.{AreMembers, members_append, members_if, whole_number, whole_run}
use Rattle.mp4_shown.specs.Numbers.{NumberName, shown_number}
use Rattle.mp4_shown.specs.Runs.{BytesName, shown_run}

-- the names of the number of streams, of those with two channels, of the channels, and of bytes that are too few
abbrev pub MappingNames : Type 0
MappingNames = NumberName × (NumberName × (BytesName × BytesName))

abbrev counts : MappingNames → List ℕ → List Event
counts names xs = shown_number names.0 (slice_index xs 0) ++ shown_number names.1.0 (slice_index xs 1)

-- two numbers, and a byte for each channel
abbrev pub shown_mapping : MappingNames → ℕ → List ℕ → List Event
shown_mapping names rows xs =
    if nat_lt (length xs) 2 then shown_run names.1.1.1 rows xs
    else counts names xs ++ shown_run names.1.1.0 rows (drop 2 xs)

pub whole_mapping : (names : MappingNames) (rows : ℕ) (xs : List ℕ) → AreMembers (shown_mapping names rows xs)
whole_mapping names rows xs =
    members_if (nat_lt (length xs) 2) (shown_run names.1.1.1 rows xs)
    (counts names xs ++ shown_run names.1.1.0 rows (drop 2 xs))
    (whole_run names.1.1.1 rows xs)
    (members_append (counts names xs) (shown_run names.1.1.0 rows (drop 2 xs))
    (members_append (shown_number names.0 (slice_index xs 0)) (shown_number names.1.0 (slice_index xs 1))
    (whole_number names.0 (slice_index xs 0)) (whole_number names.1.0 (slice_index xs 1)))
    (whole_run names.1.1.0 rows (drop 2 xs)))
