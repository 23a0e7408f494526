-- dec3: streams, each by the number of those that depend on it
use Rattle.std.specs.Prelude.{ℕ, ◌+◌, Bool, List, if◌then◌else◌, Ok, codes}
use Rattle.json.specs.Json.{Json, Members}
use Rattle.mp4_frame.specs.Bytes.{be_bytes}
use Rattle.mp4_declared.specs.Bits.{joined}
use Rattle.mp4_declared.specs.Layout.{OwnEntry}
use Rattle.mp4_extra_sound.specs.declared.dec3.Dec3.{Dec3}
use Rattle.mp4_extra_sound.specs.declared.dec3.Ec3Config.{Ec3Config}
use Rattle.mp4_extra_sound.specs.declared.dec3.TheConstants as dec3
use Rattle.mp4_shown.specs.TakenNumbers.{numbers_taken}
use Rattle.mp4_shown.specs.Object.{object_taken, number_at, is_number}
use Rattle.mp4_shown.specs.TakenPieces.{pieces_taken}
use Rattle.mp4_shown.specs.TakenShapes.{Takes, layout_taken, map_taken}
use Rattle.mp4_shown.specs.Taking.{Taking, ◌>>=◌}

abbrev pub no_dependents : Members → Bool
no_dependents ms = is_number 0 (number_at (codes "num_dep_sub") ms)

-- a stream that none depends on, and one that others depend on
abbrev pub single_taken : Takes (List ℕ)
single_taken ms =
    map_taken (λ ns. be_bytes 3 (joined dec3.STREAM_WIDTHS ns)) (numbers_taken dec3.STREAM.now dec3.STREAM_WIDTHS ms)

abbrev pub parent_taken : Takes (List ℕ)
parent_taken ms =
    map_taken (λ ns. be_bytes 4 (joined dec3.PARENT_WIDTHS ns)) (numbers_taken dec3.PARENT.now dec3.PARENT_WIDTHS ms)

abbrev pub stream_members : Takes (List ℕ)
stream_members ms = if no_dependents ms then single_taken ms else parent_taken ms

abbrev pub stream_taken : Json → Taking (List ℕ)
stream_taken j = object_taken stream_members j

abbrev make_dec3 : Ec3Config → List ℕ → Dec3
make_dec3 config streams = record { config = config; substreams = streams }

abbrev pub dec3_taken : OwnEntry Ec3Config 2 → Takes Dec3
dec3_taken l ms =
    layout_taken l dec3.NAMES.now.0.now ms >>= λ p.
    pieces_taken dec3.NAMES.now.1.0 dec3.NAMES.now.1.1.0 dec3.NAMES.now.1.1.1 stream_taken (codes "num_ind_sub")
    (p.0.num_ind_sub + 1) p.1 >>= λ q.
    Ok (make_dec3 p.0 q.0, q.1)
