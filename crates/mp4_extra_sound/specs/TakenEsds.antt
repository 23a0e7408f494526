-- Descriptors (ISO/IEC 14496-1, 7.2.6), as they are taken out of JSON.
use Rattle.std.specs.Prelude.{ℕ, ◌==◌, ◌&&◌, nat_lt, Bool, false, List, [], ◌∷◌, ◌++◌, if◌then◌else◌}
use Rattle.std.specs.Prelude.{Option, Some, None, Ok, codes, length, take, drop, slice_index}
use Rattle.std.specs.Str.{bytes_eq}
use Rattle.json.specs.Json.{Json, Members}
use Rattle.mp4_frame.specs.Bytes.{bytes_of_fields}
use Rattle.mp4_declared.specs.Bits.{joined}
use Rattle.mp4_declared.specs.Layout.{OwnEntry}
use Rattle.mp4_shown.specs.Lists.{ListName}
use Rattle.mp4_extra_sound.specs.AudioConfig.{Config, audio_config}
use Rattle.mp4_extra_sound.specs.ShownDescriptors.{audio_bytes}
use Rattle.mp4_extra_sound.specs.declared.audio_config.TheConstants as audio
use Rattle.mp4_extra_sound.specs.declared.esds.DecoderConfig.{DecoderConfig}
use Rattle.mp4_extra_sound.specs.declared.esds.DecoderStream.{DecoderStream}
use Rattle.mp4_extra_sound.specs.declared.esds.Descriptor.{Descriptor}
use Rattle.mp4_extra_sound.specs.declared.esds.EsDescriptor.{EsDescriptor}
use Rattle.mp4_extra_sound.specs.declared.esds.EsFlags.{EsFlags}
use Rattle.mp4_extra_sound.specs.declared.esds.EsOptions.{EsOptions}
use Rattle.mp4_extra_sound.specs.declared.esds.TheConstants as esds
use Rattle.mp4_shown.specs.TakenNumbers.{number_taken, numbers_taken}
use Rattle.mp4_shown.specs.Object.{all_of, has, members_in, object_taken, take_one, take_out}
use Rattle.mp4_shown.specs.TakenRuns.{run_taken}
use Rattle.mp4_shown.specs.TakenShapes.{Takes, layout_taken, map_taken}
use Rattle.mp4_shown.specs.Taking.{Taking, expect, within, ◌>>=◌}
use Rattle.mp4_shown.specs.declared.taken.error.Reason.TheVariants as reasons

-- ---- the configuration of the synchronization layer

abbrev pub flag_widths : List ℕ
flag_widths = 1 ∷ 1 ∷ 1 ∷ 1 ∷ 1 ∷ 1 ∷ 1 ∷ 1 ∷ []

abbrev pub length_widths : List ℕ
length_widths = 4 ∷ 5 ∷ 5 ∷ 2 ∷ []

abbrev pub layer_widths : List ℕ
layer_widths =
    1 ∷ 1 ∷ 1 ∷ 1 ∷ 1 ∷ 1 ∷ 1 ∷ 1 ∷ 32 ∷ 32 ∷ 8 ∷ 8 ∷ 8 ∷ 8 ∷ 4 ∷ 5 ∷ 5 ∷ 2 ∷ []

-- the bytes of flags, of two clocks, and of the lengths of fields
abbrev pub layer_bytes : List ℕ → List ℕ
layer_bytes ns =
    bytes_of_fields ((1, joined flag_widths (take 8 ns)) ∷ (4, slice_index ns 8) ∷ (4, slice_index ns 9)
    ∷ (1, slice_index ns 10) ∷ (1, slice_index ns 11) ∷ (1, slice_index ns 12) ∷ (1, slice_index ns 13)
    ∷ (2, joined length_widths (drop 14 ns)) ∷ [])

abbrev pub layer_numbers_taken : Takes (List ℕ)
layer_numbers_taken ms = map_taken layer_bytes (numbers_taken esds.LAYER.now layer_widths ms)

-- only a configuration that isn't predefined has these numbers
abbrev pub layer_fields_taken : ℕ → Takes (List ℕ)
layer_fields_taken predefined ms =
    if (predefined == 0) && has (codes "timeStampResolution") ms then layer_numbers_taken ms else Ok ([], ms)

abbrev pub layer_taken : Takes (List ℕ)
layer_taken ms =
    number_taken esds.PREDEFINED 8 ms >>= λ p. layer_fields_taken p.0 p.1 >>= λ q.
    run_taken esds.LAYER_REST q.1 >>= λ r. Ok (p.0 ∷ (q.0 ++ r.0), r.1)

-- ---- other descriptors

-- a size that has room in 1 to 4 bytes, of 7 bits each
abbrev pub fits_size : ℕ → ℕ → Bool
fits_size width size =
    if width == 1 then nat_lt size 128 else if width == 2 then nat_lt size 16384
    else if width == 3 then nat_lt size 2097152 else if width == 4 then nat_lt size 268435456 else false

-- the content of a descriptor with the tag t
abbrev pub content_taken : ℕ → Takes (List ℕ)
content_taken t ms =
    if (t == 6) && has esds.PREDEFINED.0.now ms then layer_taken ms else run_taken esds.CONTENT ms

abbrev make_descriptor : ℕ → ℕ → List ℕ → Descriptor
make_descriptor t size_bytes content = record { tag = t; size_bytes = size_bytes; content = content }

abbrev pub descriptor_members : Takes Descriptor
descriptor_members ms =
    number_taken esds.DESCRIPTOR_NAMES.now.0 8 ms >>= λ p.
    number_taken esds.DESCRIPTOR_NAMES.now.1.0 8 p.1 >>= λ q.
    content_taken p.0 q.1 >>= λ r.
    expect (fits_size q.0 (length r.0)) esds.DESCRIPTOR_NAMES.now.1.0.0.now reasons.OutOfRange >>= λ _.
    Ok (make_descriptor p.0 q.0 r.0, r.1)

abbrev pub descriptor_taken : Json → Taking Descriptor
descriptor_taken j = object_taken descriptor_members j

-- ---- the configuration of MPEG-4 audio, which follows from a descriptor

abbrev pub audio_numbers : Takes Config
audio_numbers ms =
    numbers_taken audio.AUDIO.now (64 ∷ 64 ∷ 64 ∷ 64 ∷ []) ms >>= λ p.
    numbers_taken audio.EXTENSION.now (64 ∷ 64 ∷ 64 ∷ 64 ∷ 64 ∷ []) p.1 >>= λ q. Ok ((p.0, q.0), q.1)

abbrev pub is_config : Config → Option Config → Bool
is_config c (Some d) = bytes_eq d.0 c.0 && bytes_eq d.1 c.1
is_config c None = false

-- the configuration, if it is there, is that of these bytes
abbrev pub audio_agrees : List ℕ → Option Json → Taking (Unit {0})
audio_agrees bytes (Some j) =
    let name = audio.AUDIO_NAME.now in
    members_in name j >>= λ inside. within name (all_of audio_numbers inside) >>= λ c.
    expect (is_config c (audio_config bytes)) name reasons.Contradiction
audio_agrees bytes None = Ok tt

abbrev pub audio_taken : List ℕ → Members → Taking Members
audio_taken bytes ms = take_out audio.AUDIO_NAME.now ms >>= λ p. audio_agrees bytes p.0 >>= λ _. Ok p.1

-- ---- the configuration of a decoder

-- size, object type, stream, and two rates
abbrev pub ConfigNumbers : Type 0
ConfigNumbers = ℕ × (ℕ × (DecoderStream × (ℕ × (ℕ × Unit {0}))))

abbrev make_config : ConfigNumbers → List Descriptor → DecoderConfig
make_config v descriptors = record {
  size_bytes = v.0;
  object_type_indication = v.1.0;
  stream = v.1.1.0;
  max_bitrate = v.1.1.1.0;
  avg_bitrate = v.1.1.1.1.0;
  descriptors = descriptors;
}

-- a configuration beside its descriptors
abbrev pub config_taken : Takes ConfigNumbers → List Descriptor → Takes DecoderConfig
config_taken numbers descriptors ms =
    numbers ms >>= λ p. audio_taken (audio_bytes p.0.1.0 descriptors) p.1 >>= λ rest.
    Ok (make_config p.0 descriptors, rest)

-- a configuration that is a member
abbrev pub config_in : Takes ConfigNumbers → List Descriptor → Json → Taking DecoderConfig
config_in numbers descriptors j =
    let name = esds.ES.now.1.1.1.0.0.now in
    members_in name j >>= λ inside. within name (all_of (config_taken numbers descriptors) inside)

-- ---- the options

-- the parts that the flags announce
abbrev pub OptionParts : Type 0
OptionParts = Option ℕ × (Option (List ℕ) × (Option ℕ × Unit {0}))

abbrev make_options : EsFlags → OptionParts → EsOptions
make_options flags v = record { flags = flags; depends_on_es_id = v.0; url = v.1.0; ocr_es_id = v.1.1.0 }

abbrev pub options_taken : OwnEntry EsFlags 1 → (EsFlags → Takes OptionParts) → Takes EsOptions
options_taken l parts ms =
    layout_taken l esds.OPTIONS.now.0.now ms >>= λ p. parts p.0 p.1 >>= λ q. Ok (make_options p.0 q.0, q.1)

-- ---- the elementary stream

abbrev make_es : ℕ → ℕ → EsOptions → DecoderConfig → List Descriptor → EsDescriptor
make_es size_bytes id options config descriptors = record {
  size_bytes = size_bytes;
  es_id = id;
  options = options;
  decoder_config = config;
  descriptors = descriptors;
}

abbrev pub es_taken : Takes EsOptions → Takes ConfigNumbers → (ListName → Takes (List Descriptor))
    → Takes EsDescriptor
es_taken options numbers list ms =
    number_taken esds.ES.now.0 8 ms >>= λ a. number_taken esds.ES.now.1.0 16 a.1 >>= λ b.
    options b.1 >>= λ c. take_one esds.ES.now.1.1.1.0.0.now c.1 >>= λ d.
    list esds.ES.now.1.1.1.1.0 d.1 >>= λ e. list esds.ES.now.1.1.1.1.1.0 e.1 >>= λ f.
    config_in numbers e.0 d.0 >>= λ config.
    Ok (make_es a.0 b.0 c.0 config f.0, f.1)
