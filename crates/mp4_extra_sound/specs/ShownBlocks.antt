-- The events of a block of metadata of FLAC (RFC 9639, 8.1).
use Rattle.std.specs.Prelude.{ℕ, ◌+◌, ◌/◌, ◌%◌, ◌^◌, ◌==◌, ◌&&◌, List, [], ◌∷◌, ◌++◌, false, if◌then◌else◌, length}
use Rattle.std.specs.Prelude.{drop}
use denote.Bor.{Bor}
use Rattle.mp4_frame.specs.Bytes.{number}
use Rattle.mp4_shown.specs.Event.{Event}
use Rattle.mp4_shown.specs.Members.{AreMembers, members_append, members_if, whole_number, whole_numbers, whole_run}
use Rattle.mp4_shown.specs.Numbers.{NumberName, NumberNames, seen_number, seen_numbers, shown_number, shown_numbers}
use Rattle.mp4_shown.specs.Runs.{BytesName, seen_bytes, shown_run}
use Rattle.mp4_shown.specs.declared.bytes_name.BytesAs.{BytesAs}
use Rattle.mp4_shown.specs.declared.number_name.NumberAs.{NumberAs}

-- the names of the number of bytes, of the numbers and the checksum of a STREAMINFO, and of other data
abbrev pub BlockNames : Type 0
BlockNames = NumberName × (NumberNames × (BytesName × BytesName))

abbrev CodeNumber : Type 0
CodeNumber = Bor (List ℕ) × NumberAs × Bor (List (ℕ × Bor (List ℕ)))

abbrev CodeBytes : Type 0
CodeBytes = Bor (List ℕ) × BytesAs × Bor (List ℕ)

abbrev pub seen_block : CodeNumber × (Bor (List CodeNumber) × (CodeBytes × CodeBytes)) → BlockNames
seen_block names =
    (seen_number names.0, (seen_numbers names.1.0, (seen_bytes names.1.1.0, seen_bytes names.1.1.1)))

-- The numbers of a STREAMINFO (RFC 9639, 8.2): the sizes of blocks and of frames, the sample rate, the number of
-- channels and of bits in a sample, each of which is one more than what its bits say, and the number of samples.
abbrev pub stream_numbers : List ℕ → List ℕ
stream_numbers xs =
    number xs 0 2 ∷ number xs 2 2 ∷ number xs 4 3 ∷ number xs 7 3 ∷ number xs 10 8 / 2 ^ 44
    ∷ (number xs 10 8 / 2 ^ 41 % 8 + 1) ∷ (number xs 10 8 / 2 ^ 36 % 32 + 1) ∷ number xs 10 8 % 2 ^ 36 ∷ []

abbrev pub stream_info : BlockNames → ℕ → List ℕ → List Event
stream_info names rows xs =
    shown_numbers false names.1.0.now (stream_numbers xs) ++ shown_run names.1.1.0 rows (drop 18 xs)

-- the data of a block of type t: a STREAMINFO if it has all its bytes
abbrev pub block_data : BlockNames → ℕ → ℕ → List ℕ → List Event
block_data names rows t xs =
    if (t == 0) && (length xs == 34) then stream_info names rows xs else shown_run names.1.1.1 rows xs

-- the number of bytes of the data, and the data
abbrev pub shown_block : BlockNames → ℕ → ℕ × List ℕ → List Event
shown_block names rows v = shown_number names.0 (length v.1) ++ block_data names rows v.0 v.1

pub whole_block : (names : BlockNames) (rows : ℕ) (v : ℕ × List ℕ) → AreMembers (shown_block names rows v)
whole_block names rows v =
    members_append (shown_number names.0 (length v.1)) (block_data names rows v.0 v.1)
    (whole_number names.0 (length v.1))
    (members_if ((v.0 == 0) && (length v.1 == 34)) (stream_info names rows v.1) (shown_run names.1.1.1 rows v.1)
    (members_append (shown_numbers false names.1.0.now (stream_numbers v.1))
    (shown_run names.1.1.0 rows (drop 18 v.1))
    (whole_numbers names.1.0.now (stream_numbers v.1)) (whole_run names.1.1.0 rows (drop 18 v.1)))
    (whole_run names.1.1.1 rows v.1))
