-- The codes are those of the values that are passed.
use Rattle.std.proofs.Common.{◌≡◌, take}
use Rattle.std.specs.List.{flat_map}
use Rattle.mp4_c.specs.Changes.{code_bytes}
use Rattle.mp4_c.proofs.change.codes_of.Given as goal

abbrev pub invariant-loop-value : goal.invariant-loop-value
invariant-loop-value l = flat_map code_bytes l.found.items ≡ flat_map (λ value. value) (take l.value-index l.values)
