use Rattle.std.proofs.Common.{◌≡◌, ◌-◌, ◌∙◌, ℕ, List, ap, min, rules}
use Rattle.mp4_content.proofs.PieceSteps.{present_same}
use Rattle.mp4_content.proofs.pieces.present.Goals as goal
use Rattle.mp4_walk.specs.Source.{piece}

pub returns-clause-bytes : goal.returns-clause-bytes
returns-clause-bytes c = λ file is.
    let count : c.min.result ≡ min c.args.size (c.args.total - c.args.start) = search rules in
    ap (λ (n : ℕ). piece file c.args.start n) count ∙ present_same file c.args.start c.args.size c.args.total is
