-- dfLa: a STREAMINFO (RFC 9639, 8.2), or bytes
use Rattle.std.specs.Prelude.{ℕ, ◌+◌, ◌-◌, ◌*◌, ◌^◌, ◌==◌, ◌&&◌, nat_le, nat_lt, not, List, [], ◌∷◌, ◌++◌}
use Rattle.std.specs.Prelude.{if◌then◌else◌, Ok, codes, length, slice_index}
use Rattle.json.specs.Json.{Json}
use Rattle.mp4_frame.specs.Bytes.{bytes_of_fields}
use Rattle.mp4_declared.specs.Layout.{OwnEntry}
use Rattle.mp4_shown.specs.Runs.{BytesName}
use Rattle.mp4_extra_sound.specs.declared.dfla.FlacBlockKind.{FlacBlockKind}
use Rattle.mp4_extra_sound.specs.declared.dfla.FlacMetadataBlock.{FlacMetadataBlock}
use Rattle.mp4_extra_sound.specs.declared.dfla.TheConstants as dfla
use Rattle.mp4_shown.specs.TakenLists.{count_taken}
use Rattle.mp4_shown.specs.TakenNumbers.{numbers_taken}
use Rattle.mp4_shown.specs.Object.{object_taken, has}
use Rattle.mp4_shown.specs.TakenRuns.{run_taken, run_if}
use Rattle.mp4_shown.specs.TakenShapes.{Takes, layout_taken}
use Rattle.mp4_shown.specs.Taking.{Taking, expect, ◌>>=◌}
use Rattle.mp4_shown.specs.declared.taken.error.Reason.TheVariants as reasons

abbrev pub stream_widths : List ℕ
stream_widths = 16 ∷ 16 ∷ 24 ∷ 24 ∷ 20 ∷ 4 ∷ 6 ∷ 36 ∷ []

-- a number from 1 to `most`
abbrev pub counted_from_one : List ℕ → ℕ → ℕ → Taking (Unit {0})
counted_from_one name most n = expect (nat_le 1 n && nat_le n most) name reasons.OutOfRange

-- rate, channels, bits and number of samples; channels and bits are kept minus one
abbrev pub stream_word : ℕ → ℕ → ℕ → ℕ → ℕ
stream_word rate channels bits total = rate * 2 ^ 44 + (channels - 1) * 2 ^ 41 + (bits - 1) * 2 ^ 36 + total

-- the bytes of the numbers
abbrev pub stream_bytes : List ℕ → List ℕ
stream_bytes ns =
    bytes_of_fields ((2, slice_index ns 0) ∷ (2, slice_index ns 1) ∷ (3, slice_index ns 2) ∷ (3, slice_index ns 3)
    ∷ (8, stream_word (slice_index ns 4) (slice_index ns 5) (slice_index ns 6) (slice_index ns 7)) ∷ [])

-- the numbers, with a channel and a bit at least
abbrev pub stream_numbers_taken : Takes (List ℕ)
stream_numbers_taken ms =
    numbers_taken dfla.STREAM.now stream_widths ms >>= λ p.
    counted_from_one (codes "channels") 8 (slice_index p.0 5) >>= λ _.
    counted_from_one (codes "bits_per_sample") 32 (slice_index p.0 6) >>= λ _. Ok p

abbrev pub checksum_taken : BytesName → Takes (List ℕ)
checksum_taken checksum ms = run_if checksum (λ sum. length sum == 16) reasons.WrongLength ms

abbrev pub info_taken : BytesName → Takes (List ℕ)
info_taken checksum ms =
    stream_numbers_taken ms >>= λ p. checksum_taken checksum p.1 >>= λ q. Ok (stream_bytes p.0 ++ q.0, q.1)

abbrev pub block_data_taken : ℕ → Takes (List ℕ)
block_data_taken block_type ms =
    if (block_type == 0) && not (has dfla.BLOCK.now.1.1.1.1.0.now ms)
    then info_taken dfla.BLOCK.now.1.1.1.0 ms
    else run_taken dfla.BLOCK.now.1.1.1.1 ms

abbrev make_block : FlacBlockKind → List ℕ → FlacMetadataBlock
make_block kind bytes = record { kind = kind; block_data = bytes }

abbrev pub block_members : OwnEntry FlacBlockKind 1 → Takes FlacMetadataBlock
block_members l ms =
    layout_taken l dfla.BLOCK.now.0.now ms >>= λ p. block_data_taken p.0.block_type p.1 >>= λ q.
    expect (nat_lt (length q.0) (2 ^ 24)) dfla.BLOCK.now.1.1.1.1.0.now reasons.WrongLength >>= λ _.
    count_taken dfla.BLOCK.now.1.0.0.now (length q.0) q.1 >>= λ rest.
    Ok (make_block p.0 q.0, rest)

abbrev pub block_taken : OwnEntry FlacBlockKind 1 → Json → Taking FlacMetadataBlock
block_taken l j = object_taken (block_members l) j
