-- dOps: a mapping of channels, or bytes
use Rattle.std.specs.Prelude.{ℕ, List, ◌++◌, if◌then◌else◌, Ok}
use Rattle.mp4_frame.specs.Bytes.{be_bytes}
use Rattle.mp4_extra_sound.specs.ShownMapping.{MappingNames}
use Rattle.mp4_shown.specs.TakenNumbers.{number_taken}
use Rattle.mp4_shown.specs.Object.{has}
use Rattle.mp4_shown.specs.TakenRuns.{run_taken}
use Rattle.mp4_shown.specs.TakenShapes.{Takes}
use Rattle.mp4_shown.specs.Taking.{◌>>=◌}

abbrev pub mapping_members : MappingNames → Takes (List ℕ)
mapping_members names ms =
    number_taken names.0 8 ms >>= λ p. number_taken names.1.0 8 p.1 >>= λ q.
    run_taken names.1.1.0 q.1 >>= λ r. Ok ((be_bytes 1 p.0 ++ be_bytes 1 q.0) ++ r.0, r.1)

abbrev pub mapping_taken : MappingNames → Takes (List ℕ)
mapping_taken names ms = if has names.0.0.now ms then mapping_members names ms else run_taken names.1.1.1 ms
