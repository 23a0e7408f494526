use Rattle.mp4_frame.specs.Children.{children}
use Rattle.mp4_frame.proofs.Chains.{continue_with}
use Rattle.mp4_frame.proofs.Decided.{Decides}
use Rattle.mp4_frame.proofs.child.last_child.Given as goal

abbrev pub invariant-loop-left : goal.invariant-loop-left
invariant-loop-left g l =
    let chain = children g.T.ReadBox.reads l.code l.parent.bytes.now l.parent.start l.parent.size in
    Decides (continue_with l.found (chain l.left l.at)) (chain l.fn.most l.fn.from)

abbrev pub decreases-loop-left : goal.decreases-loop-left
decreases-loop-left g l = l.left
