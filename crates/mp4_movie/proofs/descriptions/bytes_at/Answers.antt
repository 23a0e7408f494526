use Rattle.std.proofs.Common.{◌≡◌, ℕ, Vec, Global, sym, ◌∙◌}
use Rattle.mp4_movie.proofs.CutBoxes.{cut_box}
use Rattle.mp4_movie.proofs.descriptions.bytes_at.Goals as goal

pub returns-then-not-is_whole-clause-value : goal.returns-then-not-is_whole-clause-value
returns-then-not-is_whole-clause-value g c =
    cut_box (λ (v : Vec ℕ Global). v.items) c.args.walk.now.bytes c.args.found.now c.from.result
    (sym c.is_whole.ensures ∙ c.if-not-is_whole.true) c.from.ensures
