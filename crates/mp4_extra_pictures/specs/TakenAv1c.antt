-- av1C: the last bits are named by the flag before them
use Rattle.std.specs.Prelude.{ℕ, Bool, List, if◌then◌else◌, Ok, codes}
use Rattle.json.specs.Json.{Members}
use Rattle.mp4_declared.specs.Layout.{OwnEntry}
use Rattle.mp4_extra_pictures.specs.declared.av1c.Av1Config.{Av1Config}
use Rattle.mp4_extra_pictures.specs.declared.av1c.Av1c.{Av1c}
use Rattle.mp4_extra_pictures.specs.declared.av1c.TheConstants as av1c
use Rattle.mp4_shown.specs.Object.{number_at, is_number}
use Rattle.mp4_shown.specs.TakenRuns.{run_taken}
use Rattle.mp4_shown.specs.TakenShapes.{Takes, layout_taken}
use Rattle.mp4_shown.specs.Taking.{◌>>=◌}

abbrev pub delay_is_present : Members → Bool
delay_is_present ms = is_number 1 (number_at (codes "initial_presentation_delay_present") ms)

abbrev pub config_taken : OwnEntry Av1Config 4 → Takes Av1Config
config_taken l ms =
    if delay_is_present ms then layout_taken l av1c.NAMES.now.0.0.now ms else layout_taken l av1c.NAMES.now.0.1.now ms

abbrev make_av1c : Av1Config → List ℕ → Av1c
make_av1c config obus = record { config = config; config_obus = obus }

abbrev pub av1c_taken : OwnEntry Av1Config 4 → Takes Av1c
av1c_taken l ms =
    config_taken l ms >>= λ p. run_taken av1c.NAMES.now.1.0 p.1 >>= λ q. Ok (make_av1c p.0 q.0, q.1)
