-- The configuration of MPEG-4 audio (ISO/IEC 14496-3, 1.6.2.1), as the numbers that are shown. Offsets are in bits.
use Rattle.std.specs.Prelude.{ℕ, ◌+◌, ◌-◌, ◌*◌, ◌/◌, ◌%◌, ◌^◌, ◌==◌, ◌&&◌, ◌||◌, nat_le, nat_lt, Bool, List, [], ◌∷◌}
use Rattle.std.specs.Prelude.{Option, Some, None, if◌then◌else◌, length, slice_index}
use Rattle.mp4_extra_sound.specs.declared.audio_config.TheConstants.{FREQUENCIES}

-- the number in the four bytes at offset k, in bytes; a byte past the end is 0
abbrev pub window : List ℕ → ℕ → ℕ
window xs k =
    slice_index xs k * 16777216 + slice_index xs (k + 1) * 65536 + slice_index xs (k + 2) * 256 + slice_index xs (k + 3)

-- the w bits at offset o, 24 at most
unfoldable pub bits_at : List ℕ → ℕ → ℕ → ℕ
bits_at xs o w = window xs (o / 8) / 2 ^ (32 - (o % 8 + w)) % 2 ^ w

-- the bytes of the first o bits are present
abbrev pub is_present : List ℕ → ℕ → Bool
is_present xs o = nat_le ((o + 7) / 8) (length xs)

-- the object type at offset o, and the offset after it
unfoldable pub object_type : List ℕ → ℕ → ℕ × ℕ
object_type xs o = if bits_at xs o 5 == 31 then (32 + bits_at xs (o + 5) 6, o + 11) else (bits_at xs o 5, o + 5)

-- the sampling frequency of an index, in hertz; 0 if the index has none
abbrev pub frequency_of : ℕ → ℕ
frequency_of i = if nat_lt i 13 then slice_index FREQUENCIES i else 0

-- the index at offset o, the sampling frequency, and the offset after them
unfoldable pub frequency : List ℕ → ℕ → ℕ × ℕ × ℕ
frequency xs o =
    if bits_at xs o 4 == 15 then (15, bits_at xs (o + 4) 24, o + 28)
    else (bits_at xs o 4, frequency_of (bits_at xs o 4), o + 4)

-- The numbers of an extension: its object type, two flags, and the index and frequency of its samples. Each flag is 2
-- if it isn't signalled, and the index is 16 if there is none.
abbrev pub no_extension : List ℕ
no_extension = 0 ∷ 2 ∷ 2 ∷ 16 ∷ 0 ∷ []

-- the flag of parametric stereo at offset o
unfoldable pub ps_flag : List ℕ → ℕ → ℕ
ps_flag xs o = if is_present xs (o + 12) && (bits_at xs o 11 == 1352) then bits_at xs (o + 11) 1 else 2

-- spectral band replication with this index, frequency, and offset after them
abbrev pub sbr_after : List ℕ → ℕ × ℕ × ℕ → List ℕ
sbr_after xs f = if is_present xs f.2 then 5 ∷ 1 ∷ ps_flag xs f.2 ∷ f.0 ∷ f.1 ∷ [] else no_extension

-- the extension of this object type, whose flag is at the offset after it
abbrev pub extension_of : List ℕ → ℕ × ℕ → List ℕ
extension_of xs t =
    if t.0 == 5 then
    (if bits_at xs t.1 1 == 1 then sbr_after xs (frequency xs (t.1 + 1)) else 5 ∷ 0 ∷ 2 ∷ 16 ∷ 0 ∷ [])
    else no_extension

-- the extension at offset o, if there is one
unfoldable pub extension_at : List ℕ → ℕ → List ℕ
extension_at xs o =
    if is_present xs (o + 17) && (bits_at xs o 11 == 695) then extension_of xs (object_type xs (o + 11))
    else no_extension

-- The offset after the configuration of a coder (GASpecificConfig, 4.4.1) at offset o, for object types 1 to 4 with a
-- channel configuration. Flags say whether a delay and a third flag are present.
abbrev pub after_delay : List ℕ → ℕ → ℕ
after_delay xs o = if bits_at xs (o + 1) 1 == 1 then o + 16 else o + 2

abbrev pub after_flag : List ℕ → ℕ → ℕ
after_flag xs o = if bits_at xs o 1 == 1 then o + 2 else o + 1

unfoldable pub after_coder : List ℕ → ℕ → ℕ
after_coder xs o = after_flag xs (after_delay xs o)

-- the extension after an object type, a channel configuration, and the offset after them
unfoldable pub extension_after : List ℕ → ℕ → ℕ → ℕ → List ℕ
extension_after xs kind channels o =
    if (nat_le 1 kind && nat_le kind 4) && nat_lt 0 channels then extension_at xs (after_coder xs o) else no_extension

-- The numbers of a configuration: its object type, the index and frequency of its samples, its channels; and those of
-- an extension.
abbrev pub Config : Type 0
Config = List ℕ × List ℕ

-- a configuration whose object type 5 or 29 is that of an extension; its own object type is after the extension's
abbrev pub extended_by : List ℕ → ℕ → ℕ × ℕ × ℕ → ℕ → ℕ × ℕ × ℕ → ℕ × ℕ → Option Config
extended_by xs kind f channels g t =
    if is_present xs t.1 then
    Some (
      t.0 ∷ f.0 ∷ f.1 ∷ channels ∷ [],
      5 ∷ 1 ∷ (if kind == 29 then 1 else 2) ∷ g.0 ∷ g.1 ∷ [],
    )
    else None

unfoldable pub extended : List ℕ → ℕ → ℕ × ℕ × ℕ → ℕ → ℕ × ℕ × ℕ → Option Config
extended xs kind f channels g = extended_by xs kind f channels g (object_type xs g.2)

unfoldable pub plain : List ℕ → ℕ → ℕ × ℕ × ℕ → ℕ → Option Config
plain xs kind f channels =
    if is_present xs (f.2 + 4) then
    Some (kind ∷ f.0 ∷ f.1 ∷ channels ∷ [], extension_after xs kind channels (f.2 + 4))
    else None

abbrev pub config_after : List ℕ → ℕ → ℕ × ℕ × ℕ → ℕ → Option Config
config_after xs kind f channels =
    if (kind == 5) || (kind == 29) then extended xs kind f channels (frequency xs (f.2 + 4))
    else plain xs kind f channels

unfoldable pub config_of : List ℕ → ℕ → ℕ × ℕ × ℕ → Option Config
config_of xs kind f = config_after xs kind f (bits_at xs f.2 4)

abbrev pub config_from : List ℕ → ℕ × ℕ → Option Config
config_from xs t = config_of xs t.0 (frequency xs t.1)

-- the configuration in some bytes, if they are enough
unfoldable pub audio_config : List ℕ → Option Config
audio_config xs = config_from xs (object_type xs 0)
