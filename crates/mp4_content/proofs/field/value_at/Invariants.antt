-- The rest of the steps leads from the value reached to the same value.
use Rattle.std.proofs.Common.{◌≡◌, drop, map}
use Rattle.json.specs.Value.{value_view}
use Rattle.mp4_content.specs.Field.{place_of, value_at}
use Rattle.mp4_content.proofs.field.value_at.Given as goal

abbrev pub invariant-loop-step : goal.invariant-loop-step
invariant-loop-step l =
    value_at (map place_of (drop l.step-index l.rest)) (value_view l.here)
    ≡ value_at (map place_of l.fn.steps) (value_view l.fn.value)
