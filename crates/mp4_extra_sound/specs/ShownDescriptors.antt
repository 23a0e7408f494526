-- The events of descriptors (ISO/IEC 14496-1, 7.2.6), and of the configuration of MPEG-4 audio in one.
use Rattle.std.proofs.Common.{refl}
use Rattle.std.specs.Prelude.{ℕ, ◌/◌, ◌%◌, ◌==◌, ◌&&◌, nat_le, nat_lt, false, List, [], ◌∷◌, ◌++◌, Option, Some, None}
use Rattle.std.specs.Prelude.{if◌then◌else◌, length, drop, slice_get}
use Rattle.mp4_frame.specs.Bytes.{number}
use Rattle.mp4_shown.specs.Event.{Event}
use Rattle.mp4_shown.specs.Members.{AreMembers, members_append, members_if, whole_group, whole_number, whole_numbers}
use Rattle.mp4_shown.specs.Members.{whole_run}
use Rattle.mp4_shown.specs.Numbers.{shown_number, shown_numbers}
use Rattle.mp4_shown.specs.Runs.{shown_run}
use Rattle.mp4_shown.specs.Shapes.{shown_group}
use Rattle.mp4_extra_sound.specs.AudioConfig.{Config, audio_config}
use Rattle.mp4_extra_sound.specs.declared.audio_config.TheConstants.{AUDIO, AUDIO_NAME, EXTENSION}
use Rattle.mp4_extra_sound.specs.declared.esds.Descriptor.{Descriptor}
use Rattle.mp4_extra_sound.specs.declared.esds.TheConstants.{CONTENT, LAYER, LAYER_REST, PREDEFINED}

-- The numbers of a configuration of the synchronization layer (SLConfigDescriptor, 7.3.2.3) that isn't predefined:
-- eight flags, two clocks, the lengths of four fields, of another three in bits, and reserved bits.
abbrev pub flags_of : ℕ → List ℕ → List ℕ
flags_of b ns =
    b / 128 ∷ b / 64 % 2 ∷ b / 32 % 2 ∷ b / 16 % 2 ∷ b / 8 % 2 ∷ b / 4 % 2 ∷ b / 2 % 2 ∷ b % 2 ∷ ns

abbrev pub lengths_of : ℕ → List ℕ
lengths_of n = n / 4096 ∷ n / 128 % 32 ∷ n / 4 % 32 ∷ n % 4 ∷ []

unfoldable pub layer_numbers : List ℕ → List ℕ
layer_numbers xs =
    flags_of (number xs 1 1)
    (number xs 2 4 ∷ number xs 6 4 ∷ number xs 10 1 ∷ number xs 11 1 ∷ number xs 12 1 ∷ number xs 13 1
    ∷ lengths_of (number xs 14 2))

abbrev pub shown_fields : ℕ → List ℕ → List Event
shown_fields rows xs = shown_numbers false LAYER.now (layer_numbers xs) ++ shown_run LAYER_REST rows (drop 16 xs)

-- what follows the number of a predefined configuration
abbrev pub shown_rest : ℕ → List ℕ → List Event
shown_rest rows xs =
    if (number xs 0 1 == 0) && nat_le 16 (length xs) then shown_fields rows xs
    else shown_run LAYER_REST rows (drop 1 xs)

abbrev pub shown_layer : ℕ → List ℕ → List Event
shown_layer rows xs = shown_number PREDEFINED (number xs 0 1) ++ shown_rest rows xs

-- the content of a descriptor with the tag t
abbrev pub shown_content : ℕ → ℕ → List ℕ → List Event
shown_content rows t xs = if (t == 6) && nat_lt 0 (length xs) then shown_layer rows xs else shown_run CONTENT rows xs

pub whole_content : (rows t : ℕ) (xs : List ℕ) → AreMembers (shown_content rows t xs)
whole_content rows t xs =
    members_if ((t == 6) && nat_lt 0 (length xs)) (shown_layer rows xs) (shown_run CONTENT rows xs)
    (members_append (shown_number PREDEFINED (number xs 0 1)) (shown_rest rows xs)
    (whole_number PREDEFINED (number xs 0 1))
    (members_if ((number xs 0 1 == 0) && nat_le 16 (length xs)) (shown_fields rows xs)
    (shown_run LAYER_REST rows (drop 1 xs))
    (members_append (shown_numbers false LAYER.now (layer_numbers xs)) (shown_run LAYER_REST rows (drop 16 xs))
    (whole_numbers LAYER.now (layer_numbers xs)) (whole_run LAYER_REST rows (drop 16 xs)))
    (whole_run LAYER_REST rows (drop 1 xs))))
    (whole_run CONTENT rows xs)

-- the bytes of a configuration of MPEG-4 audio: the content of a first descriptor with tag 5, for object type 0x40
abbrev pub bytes_of_first : ℕ → Option Descriptor → List ℕ
bytes_of_first kind (Some d) = if (kind == 64) && (d.tag == 5) then d.content else []
bytes_of_first kind None = []

abbrev pub audio_bytes : ℕ → List Descriptor → List ℕ
audio_bytes kind ds = bytes_of_first kind (slice_get ds 0)

abbrev pub shown_config : Option Config → List Event
shown_config (Some c) =
    shown_group AUDIO_NAME.now (shown_numbers false AUDIO.now c.0 ++ shown_numbers false EXTENSION.now c.1)
shown_config None = []

-- the configuration of MPEG-4 audio in some bytes, if they are enough
abbrev pub shown_audio : List ℕ → List Event
shown_audio xs = shown_config (audio_config xs)

whole_config : (c : Option Config) → AreMembers (shown_config c)
whole_config (Some c) =
    whole_group AUDIO_NAME.now (shown_numbers false AUDIO.now c.0 ++ shown_numbers false EXTENSION.now c.1)
    (members_append (shown_numbers false AUDIO.now c.0) (shown_numbers false EXTENSION.now c.1)
    (whole_numbers AUDIO.now c.0) (whole_numbers EXTENSION.now c.1))
whole_config None = λ s. refl

pub whole_audio : (xs : List ℕ) → AreMembers (shown_audio xs)
whole_audio xs = whole_config (audio_config xs)
