use Rattle.std.proofs.Common.{◌≡◌, ◌+◌, ◌*◌, ◌≤◌, length}
use Rattle.std.specs.Prelude.{min}
use Rattle.mp4_sound.specs.Walk.{walk}
use Rattle.mp4_sound.proofs.Walks.{continued}
use Rattle.mp4_sound.proofs.walk.walk.Given as goal

abbrev pub invariant-loop-left : goal.invariant-loop-left
invariant-loop-left g l =
    let chain = walk g.T.WalkedFor.content l.bytes l.bound in
    let whole = chain l.fn.most l.fn.from in
    record {
      told : (continued l.found (chain l.left l.at)).outcome ≡ whole.outcome;
      headers : l.headers + (chain l.left l.at).headers ≡ l.initial.headers + whole.headers;
      begun : l.fn.from ≤ l.at;
      few : 2 * l.headers + l.fn.from ≤ 2 * l.initial.headers + min l.at (length l.bytes);
    }

abbrev pub decreases-loop-left : goal.decreases-loop-left
decreases-loop-left g l = l.left
