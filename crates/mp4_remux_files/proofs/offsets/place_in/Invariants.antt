-- The boxes that are left lead to the same place.
use Rattle.std.proofs.Common.{◌≡◌, drop}
use Rattle.mp4_remux_files.specs.Offsets.{place_in}
use Rattle.mp4_remux_files.proofs.offsets.place_in.Given as goal

abbrev pub invariant-loop-index : goal.invariant-loop-index
invariant-loop-index l =
    place_in (drop l.index l.old) (drop l.index l.new) l.offset l.place ≡ place_in l.old l.new l.offset 0
