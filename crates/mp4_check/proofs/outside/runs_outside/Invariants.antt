use Rattle.std.proofs.Common.{◌≡◌, fold, map, take}
use Rattle.mp4_check.specs.Outside.{counted, none_yet, run_place}
use Rattle.mp4_check.proofs.outside.runs_outside.Given as goal

abbrev pub invariant-loop-run : goal.invariant-loop-run
invariant-loop-run l =
    l.tally ≡ fold counted none_yet (map (run_place l.media.extents.items l.media.length) (take l.run-index l.runs))
