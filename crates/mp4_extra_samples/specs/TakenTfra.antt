-- tfra: numbers of these widths in bytes
use Rattle.std.specs.Prelude.{ℕ, ◌*◌}
use Rattle.std.specs.Prelude.{List, [], ◌∷◌, Ok, map, slice_index}
use Rattle.json.specs.Json.{Json}
use Rattle.mp4_frame.specs.Bytes.{bytes_of_fields}
use Rattle.mp4_declared.specs.Shape.{time_width}
use Rattle.mp4_extra_samples.specs.ShownAccesses.{width_of}
use Rattle.mp4_extra_samples.specs.declared.tfra.Accesses.{Accesses}
use Rattle.mp4_extra_samples.specs.declared.tfra.Tfra.{Tfra}
use Rattle.mp4_extra_samples.specs.declared.tfra.TfraLengths.{TfraLengths}
use Rattle.mp4_extra_samples.specs.declared.tfra.TheConstants as tfra
use Rattle.mp4_shown.specs.TakenNumbers.{numbers_taken}
use Rattle.mp4_shown.specs.Object.{object_taken}
use Rattle.mp4_shown.specs.TakenPieces.{pieces_taken}
use Rattle.mp4_shown.specs.TakenShapes.{Takes, map_taken}
use Rattle.mp4_shown.specs.Taking.{Taking, ◌>>=◌}

abbrev pub access_widths : Accesses → List ℕ
access_widths a =
    time_width a.version ∷ time_width a.version ∷ width_of a.lengths.length_size_of_traf_num
    ∷ width_of a.lengths.length_size_of_trun_num ∷ width_of a.lengths.length_size_of_sample_num ∷ []

-- the bytes of numbers of these widths, one after the other
abbrev pub access_bytes : Accesses → List ℕ → List ℕ
access_bytes a ns =
    bytes_of_fields ((time_width a.version, slice_index ns 0) ∷ (time_width a.version, slice_index ns 1)
    ∷ (width_of a.lengths.length_size_of_traf_num, slice_index ns 2)
    ∷ (width_of a.lengths.length_size_of_trun_num, slice_index ns 3)
    ∷ (width_of a.lengths.length_size_of_sample_num, slice_index ns 4) ∷ [])

abbrev pub access_members : Accesses → Takes (List ℕ)
access_members a ms =
    map_taken (access_bytes a) (numbers_taken tfra.ACCESS.now (map (λ w. 8 * w) (access_widths a)) ms)

abbrev pub access_taken : Accesses → Json → Taking (List ℕ)
access_taken a j = object_taken (access_members a) j

-- version, flags, track, sizes and count
abbrev pub AccessFront : Type 0
AccessFront = ℕ × (ℕ × (ℕ × (TfraLengths × (ℕ × Unit {0}))))

abbrev make_tfra : AccessFront → List ℕ → Tfra
make_tfra v entries = record {
  version = v.0;
  flags = v.1.0;
  track_id = v.1.1.0;
  lengths = v.1.1.1.0;
  number_of_entry = v.1.1.1.1.0;
  entries = entries;
}

abbrev accesses_of : AccessFront → Accesses
accesses_of v = record { version = v.0; lengths = v.1.1.1.0 }

abbrev pub tfra_taken : Takes AccessFront → Takes Tfra
tfra_taken front ms =
    front ms >>= λ p.
    pieces_taken tfra.NAMES.now.1.1.1.1.1.0 tfra.NAMES.now.1.1.1.1.1.1.0 tfra.NAMES.now.1.1.1.1.1.1.1
    (access_taken (accesses_of p.0)) tfra.NAMES.now.1.1.1.1.0.0.now p.0.1.1.1.1.0 p.1 >>= λ q.
    Ok (make_tfra p.0 q.0, q.1)
