use Rattle.std.proofs.Common.{ap, ◌∙◌, ◌≡◌, ◌-◌, ◌+◌, ℕ, length, take, drop, replicate, arith, length-take, length-drop}
use Rattle.mp4_frame.proofs.Fields.{put_zeros}
use Rattle.mp4_frame.proofs.put.put_zeros.Goals as goal

pub returns-clause-put : goal.returns-clause-put
returns-clause-put c =
    let n : length (take (c.args.at + c.args.width - c.args.at) (drop c.args.at c.args.out.now)) ≡ c.args.width =
    simp (length-take, length-drop) (omega arith) in
    put_zeros c.args.out.now c.args.at _ c.args.width c.fill.new.self (omega arith)
    (c.fill.ensures.after (λ y e. e) ∙ ap (λ (k : ℕ). replicate k 0) n)
