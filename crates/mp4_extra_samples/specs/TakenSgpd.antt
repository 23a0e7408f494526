-- sgpd: descriptions by their kind
use Rattle.std.specs.Prelude.{ℕ, pos, negsuc, ◌+◌, ◌-◌, ◌*◌, ◌^◌, ◌==◌, ◌&&◌, nat_lt}
use Rattle.std.specs.Prelude.{Bool, List, [], ◌∷◌, ◌++◌, Option, Some, None, if◌then◌else◌, Ok, length, slice_index}
use Rattle.std.specs.Int.{w16, cast_unsigned}
use Rattle.json.specs.Json.{Json, Members}
use Rattle.mp4_frame.specs.Bytes.{be_bytes, bytes_of_fields}
use Rattle.mp4_frame.specs.declared.four_cc.FourCC.{FourCC}
use Rattle.mp4_extra_samples.specs.ShownGroups.{kind_in, usual_size}
use Rattle.mp4_extra_samples.specs.declared.sgpd.Descriptions.{Descriptions}
use Rattle.mp4_extra_samples.specs.declared.sgpd.GroupKind.{GroupKind}
use Rattle.mp4_extra_samples.specs.declared.sgpd.GroupKind.TheVariants as kinds
use Rattle.mp4_extra_samples.specs.declared.sgpd.Sgpd.{Sgpd}
use Rattle.mp4_extra_samples.specs.declared.sgpd.TheConstants as sgpd
use Rattle.mp4_shown.specs.Numbers.{NumberName}
use Rattle.mp4_shown.specs.TakenLists.{count_taken}
use Rattle.mp4_shown.specs.TakenNumbers.{numbers_taken, signed_taken}
use Rattle.mp4_shown.specs.Object.{object_taken, has}
use Rattle.mp4_shown.specs.TakenPieces.{pieces_taken}
use Rattle.mp4_shown.specs.TakenRuns.{run_taken, run_if}
use Rattle.mp4_shown.specs.TakenShapes.{Takes, map_taken}
use Rattle.mp4_shown.specs.Taking.{Taking, expect, ◌>>=◌}
use Rattle.mp4_shown.specs.declared.taken.error.Reason.TheVariants as reasons

-- a bit, and the seven bits after it
abbrev pub bit_byte : List ℕ → List ℕ
bit_byte ns = be_bytes 1 (slice_index ns 0 * 128 + slice_index ns 1)

abbrev pub bit_taken : List NumberName → Takes (List ℕ)
bit_taken fs ms = map_taken bit_byte (numbers_taken fs (1 ∷ 7 ∷ []) ms)

-- the widths of the numbers of encryption, and their bytes
abbrev pub encryption_widths : List ℕ
encryption_widths = 8 ∷ 4 ∷ 4 ∷ 8 ∷ 8 ∷ []

abbrev pub encryption_bytes : List ℕ → List ℕ
encryption_bytes ns =
    bytes_of_fields ((1, slice_index ns 0) ∷ (1, slice_index ns 1 * 16 + slice_index ns 2) ∷ (1, slice_index ns 3)
    ∷ (1, slice_index ns 4) ∷ [])

-- all samples of a group have one vector
abbrev pub has_constant : List ℕ → Bool
has_constant ns = (slice_index ns 3 == 1) && (slice_index ns 4 == 0)

abbrev pub constant_taken : Bool → List ℕ → Takes (List ℕ)
constant_taken is_there bytes ms =
    if is_there then (run_taken sgpd.CONSTANT_IV ms >>= λ p. Ok (bytes ++ p.0, p.1)) else Ok (bytes, ms)

abbrev pub key_taken : Takes (List ℕ)
key_taken ms = run_if sgpd.KID (λ key. length key == 16) reasons.WrongLength ms

abbrev pub encryption_taken : Takes (List ℕ)
encryption_taken ms =
    numbers_taken sgpd.ENCRYPTION.now encryption_widths ms >>= λ p. key_taken p.1 >>= λ q.
    constant_taken (has_constant p.0) (encryption_bytes p.0 ++ q.0) q.1

-- the distance of a roll, in two bytes
abbrev pub roll_taken : Takes (List ℕ)
roll_taken ms =
    map_taken (λ z. be_bytes 2 (cast_unsigned w16 z))
    (signed_taken sgpd.ROLL_DISTANCE (negsuc (2 ^ 15 - 1)) (pos (2 ^ 15 - 1)) ms)

abbrev pub kind_taken : GroupKind → Takes (List ℕ)
kind_taken kinds.Roll ms = roll_taken ms
kind_taken kinds.RandomAccess ms = bit_taken sgpd.LEADING.now ms
kind_taken kinds.Level ms = bit_taken sgpd.LEVEL.now ms
kind_taken kinds.Encryption ms = encryption_taken ms
kind_taken kinds.Unknown ms = run_taken sgpd.UNKNOWN ms

-- the fields of its kind, or bytes
abbrev pub fields_or_bytes : GroupKind → Takes (List ℕ)
fields_or_bytes kind ms = if has sgpd.UNKNOWN.0.now ms then run_taken sgpd.UNKNOWN ms else kind_taken kind ms

abbrev pub counted_description : List ℕ → Members → Taking (List ℕ × Members)
counted_description bytes ms =
    count_taken sgpd.DESCRIPTION_LENGTH.0.now (length bytes) ms >>= λ rest.
    expect (nat_lt (length bytes) (2 ^ 32)) [] reasons.WrongLength >>= λ _.
    Ok (be_bytes 4 (length bytes) ++ bytes, rest)

-- a description of n bytes
abbrev pub sized_bytes : ℕ → List ℕ → Taking (List ℕ)
sized_bytes n bytes = expect (length bytes == n) [] reasons.WrongLength >>= λ _. Ok bytes

abbrev pub kept_with : Members → Taking (List ℕ) → Taking (List ℕ × Members)
kept_with ms taking = taking >>= λ bytes. Ok (bytes, ms)

-- a description, after its length if each has its own
abbrev pub sized_description : GroupKind → Option ℕ → List ℕ → Members → Taking (List ℕ × Members)
sized_description kind None bytes ms = kept_with ms (sized_bytes (usual_size kind bytes) bytes)
sized_description kind (Some n) bytes ms =
    if n == 0 then counted_description bytes ms else kept_with ms (sized_bytes n bytes)

abbrev pub description_members : Descriptions → Takes (List ℕ)
description_members d ms =
    fields_or_bytes (kind_in d) ms >>= λ p. sized_description (kind_in d) d.default_length p.0 p.1

abbrev pub description_taken : Descriptions → Json → Taking (List ℕ)
description_taken d j = object_taken (description_members d) j

-- the fields before the descriptions: version, flags, type, length, index and count
abbrev pub GroupFront : Type 0
GroupFront = ℕ × (ℕ × (FourCC × (Option ℕ × (Option ℕ × (ℕ × Unit {0})))))

abbrev make_sgpd : GroupFront → List ℕ → Sgpd
make_sgpd v entries = record {
  version = v.0;
  flags = v.1.0;
  grouping_type = v.1.1.0;
  default_length = v.1.1.1.0;
  default_group_description_index = v.1.1.1.1.0;
  entry_count = v.1.1.1.1.1.0;
  entries = entries;
}

abbrev described_by : GroupFront → Descriptions
described_by v = record { grouping_type = v.1.1.0; default_length = v.1.1.1.0 }

abbrev pub sgpd_taken : Takes GroupFront → Takes Sgpd
sgpd_taken front ms =
    front ms >>= λ p.
    pieces_taken sgpd.NAMES.now.1.1.1.1.1.1.0 sgpd.NAMES.now.1.1.1.1.1.1.1.0 sgpd.NAMES.now.1.1.1.1.1.1.1.1
    (description_taken (described_by p.0)) sgpd.NAMES.now.1.1.1.1.1.0.0.now p.0.1.1.1.1.1.0 p.1 >>= λ q.
    Ok (make_sgpd p.0 q.0, q.1)
