-- The numbers of bytes are those of the splices that are passed and end before the byte.
use Rattle.std.proofs.Common.{◌≡◌, take}
use Rattle.std.specs.Prelude.{filter, sum_by}
use Rattle.mp4_remux.specs.Splices.{added, ends_before, removed}
use Rattle.mp4_remux.proofs.edits.splice.place.Given as goal

abbrev pub invariant-loop-splice : goal.invariant-loop-splice
invariant-loop-splice l = record {
  puts : l.added ≡ sum_by added (filter (ends_before l.at) (take l.splice-index l.splices));
  takes : l.removed ≡ sum_by removed (filter (ends_before l.at) (take l.splice-index l.splices));
}
