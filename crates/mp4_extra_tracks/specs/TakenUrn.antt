-- urn: a location, if there is one
use Rattle.std.specs.Prelude.{ℕ, ◌||◌, List, [], if◌then◌else◌, Ok}
use Rattle.mp4_extra_tracks.specs.declared.urn.Urn.{Urn}
use Rattle.mp4_extra_tracks.specs.declared.urn.TheConstants as urn
use Rattle.mp4_shown.specs.Object.{has}
use Rattle.mp4_shown.specs.TakenRuns.{run_taken}
use Rattle.mp4_shown.specs.TakenShapes.{Takes}
use Rattle.mp4_shown.specs.Taking.{◌>>=◌}

abbrev pub location_taken : Takes (List ℕ)
location_taken ms =
    let name = urn.NAMES.now.1.1.1.0 in
    if has name.0.now ms || has name.2.now ms then run_taken name ms else Ok ([], ms)

-- version, flags and name
abbrev pub UrnFront : Type 0
UrnFront = ℕ × (ℕ × (List ℕ × Unit {0}))

abbrev make_urn : UrnFront → List ℕ → Urn
make_urn v location = record { version = v.0; flags = v.1.0; name = v.1.1.0; location = location }

abbrev pub urn_taken : Takes UrnFront → Takes Urn
urn_taken front ms = front ms >>= λ p. location_taken p.1 >>= λ q. Ok (make_urn p.0 q.0, q.1)
