-- The events of the descriptions of sample groups (ISO/IEC 14496-12, 8.9.3).
use Rattle.std.specs.Prelude.{ℕ, suc, ◌+◌, ◌-◌, ◌/◌, ◌%◌, ◌==◌, ◌&&◌, nat_lt, Bool, List, [], ◌∷◌, ◌++◌, false}
use Rattle.std.specs.Prelude.{Option, Some, None, if◌then◌else◌, length, drop, take, slice_index, slice_range}
use Rattle.std.specs.Int.{w16, cast_signed}
use Rattle.std.proofs.Common.{refl}
use Rattle.mp4_frame.specs.Bytes.{number}
use Rattle.mp4_frame.specs.FourCC.{number_of}
use Rattle.mp4_shown.specs.Event.{Event}
use Rattle.mp4_shown.specs.Members.{AreMembers, members_append, members_if, whole_number, whole_numbers, whole_run}
use Rattle.mp4_shown.specs.Members.{whole_signed}
use Rattle.mp4_shown.specs.Numbers.{shown_number, shown_numbers, shown_signed}
use Rattle.mp4_shown.specs.Runs.{shown_run}
use Rattle.mp4_extra_samples.specs.declared.sgpd.TheConstants.{ROLL, PROL, RAP, TELE, SEIG, DESCRIPTION_LENGTH}
use Rattle.mp4_extra_samples.specs.declared.sgpd.TheConstants.{ROLL_DISTANCE, LEADING, LEVEL, ENCRYPTION, KID}
use Rattle.mp4_extra_samples.specs.declared.sgpd.TheConstants.{CONSTANT_IV, UNKNOWN}
use Rattle.mp4_extra_samples.specs.declared.sgpd.Descriptions.{Descriptions}
use Rattle.mp4_extra_samples.specs.declared.sgpd.GroupKind.{GroupKind}
use Rattle.mp4_extra_samples.specs.declared.sgpd.GroupKind.TheVariants as kinds

abbrev pub kind_of : ℕ → GroupKind
kind_of code =
    if code == ROLL then kinds.Roll else if code == PROL then kinds.Roll
    else if code == RAP then kinds.RandomAccess else if code == TELE then kinds.Level
    else if code == SEIG then kinds.Encryption else kinds.Unknown

-- all samples of a group have one vector (ISO/IEC 23001-7, 6)
abbrev pub has_constant : List ℕ → Bool
has_constant xs = slice_index xs 2 == 1 && (slice_index xs 3 == 0)

-- the number of bytes that follow the key: those of the vector, and one that counts them
abbrev pub constant_size : List ℕ → ℕ
constant_size xs = if has_constant xs then 1 + slice_index xs 20 else 0

-- The number of bytes of a description of this kind at the front of some bytes. That of an unknown kind isn't known, so
-- they are too few.
abbrev pub usual_size : GroupKind → List ℕ → ℕ
usual_size kinds.Roll xs = 2
usual_size kinds.RandomAccess xs = 1
usual_size kinds.Level xs = 1
usual_size kinds.Encryption xs = 20 + constant_size xs
usual_size kinds.Unknown xs = length xs + 1

-- the highest bit of a byte, and the others
abbrev pub bit_and_rest : List ℕ → List ℕ
bit_and_rest xs = slice_index xs 0 / 128 ∷ slice_index xs 0 % 128 ∷ []

abbrev pub encryption_numbers : List ℕ → List ℕ
encryption_numbers xs =
    slice_index xs 0 ∷ slice_index xs 1 / 16 ∷ slice_index xs 1 % 16 ∷ slice_index xs 2 ∷ slice_index xs 3 ∷ []

abbrev pub shown_constant : ℕ → List ℕ → List Event
shown_constant rows xs = if has_constant xs then shown_run CONSTANT_IV rows (drop 20 xs) else []

abbrev pub shown_encryption : ℕ → List ℕ → List Event
shown_encryption rows xs =
    shown_numbers false ENCRYPTION.now (encryption_numbers xs)
    ++ (shown_run KID rows (slice_range xs 4 20) ++ shown_constant rows xs)

abbrev pub shown_kind : GroupKind → ℕ → List ℕ → List Event
shown_kind kinds.Roll rows xs = shown_signed ROLL_DISTANCE (cast_signed w16 (number xs 0 2))
shown_kind kinds.RandomAccess rows xs = shown_numbers false LEADING.now (bit_and_rest xs)
shown_kind kinds.Level rows xs = shown_numbers false LEVEL.now (bit_and_rest xs)
shown_kind kinds.Encryption rows xs = shown_encryption rows xs
shown_kind kinds.Unknown rows xs = shown_run UNKNOWN rows xs

-- a description that is all of some bytes: its fields, or bytes if these aren't as many as its kind has
abbrev pub shown_description : GroupKind → ℕ → List ℕ → List Event
shown_description kind rows xs =
    if usual_size kind xs == length xs then shown_kind kind rows xs else shown_run UNKNOWN rows xs

abbrev pub kind_in : Descriptions → GroupKind
kind_in d = kind_of (number_of d.grouping_type)

-- the number of bytes of a description after its own length, if these are there
abbrev pub own_length : List ℕ → ℕ
own_length xs = if nat_lt (length xs) 4 then 0 else number xs 0 4

-- the number of bytes of a description with this default length: each has its own length if that is 0
abbrev pub size_by : GroupKind → Option ℕ → List ℕ → ℕ
size_by kind None xs = usual_size kind xs
size_by kind (Some n) xs = if n == 0 then 4 + own_length xs else n

abbrev pub shown_by : GroupKind → Option ℕ → ℕ → List ℕ → List Event
shown_by kind None rows xs = shown_description kind rows (take (usual_size kind xs) xs)
shown_by kind (Some n) rows xs =
    if n == 0 then shown_number DESCRIPTION_LENGTH (number xs 0 4)
    ++ shown_description kind rows (slice_range xs 4 (4 + own_length xs))
    else shown_description kind rows (take n xs)

whole_constant : (rows : ℕ) (xs : List ℕ) → AreMembers (shown_constant rows xs)
whole_constant rows xs =
    members_if (has_constant xs) (shown_run CONSTANT_IV rows (drop 20 xs)) [] (whole_run CONSTANT_IV rows (drop 20 xs))
    (λ s. refl)

whole_kind : (kind : GroupKind) (rows : ℕ) (xs : List ℕ) → AreMembers (shown_kind kind rows xs)
whole_kind kinds.Roll rows xs = whole_signed ROLL_DISTANCE (cast_signed w16 (number xs 0 2))
whole_kind kinds.RandomAccess rows xs = whole_numbers LEADING.now (bit_and_rest xs)
whole_kind kinds.Level rows xs = whole_numbers LEVEL.now (bit_and_rest xs)
whole_kind kinds.Encryption rows xs =
    members_append (shown_numbers false ENCRYPTION.now (encryption_numbers xs))
    (shown_run KID rows (slice_range xs 4 20) ++ shown_constant rows xs)
    (whole_numbers ENCRYPTION.now (encryption_numbers xs))
    (members_append (shown_run KID rows (slice_range xs 4 20)) (shown_constant rows xs)
    (whole_run KID rows (slice_range xs 4 20)) (whole_constant rows xs))
whole_kind kinds.Unknown rows xs = whole_run UNKNOWN rows xs

whole_description : (kind : GroupKind) (rows : ℕ) (xs : List ℕ) → AreMembers (shown_description kind rows xs)
whole_description kind rows xs =
    members_if (usual_size kind xs == length xs) (shown_kind kind rows xs) (shown_run UNKNOWN rows xs)
    (whole_kind kind rows xs) (whole_run UNKNOWN rows xs)

pub whole_by : (kind : GroupKind) (o : Option ℕ) (rows : ℕ) (xs : List ℕ) → AreMembers (shown_by kind o rows xs)
whole_by kind None rows xs = whole_description kind rows (take (usual_size kind xs) xs)
whole_by kind (Some n) rows xs =
    let own = slice_range xs 4 (4 + own_length xs) in
    members_if (n == 0)
    (shown_number DESCRIPTION_LENGTH (number xs 0 4) ++ shown_description kind rows own)
    (shown_description kind rows (take n xs))
    (members_append (shown_number DESCRIPTION_LENGTH (number xs 0 4)) (shown_description kind rows own)
    (whole_number DESCRIPTION_LENGTH (number xs 0 4)) (whole_description kind rows own))
    (whole_description kind rows (take n xs))
