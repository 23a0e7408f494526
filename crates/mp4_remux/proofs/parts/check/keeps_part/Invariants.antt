-- Both movies are unchanged, and the runs of the tracks before this one are kept.
use Rattle.std.proofs.Common.{◌≡◌}
use Rattle.mp4_remux.proofs.CutTracks.{RunsSoFar}
use Rattle.mp4_remux.proofs.parts.check.keeps_part.Given as goal

abbrev pub invariant-loop-number : goal.invariant-loop-number
invariant-loop-number g l = record {
  before : l.before ≡ l.fn.before;
  after : l.after ≡ l.fn.after;
  kept : RunsSoFar l.part l.start l.plan l.number l.fn.before.bytes l.fn.after.bytes;
}
