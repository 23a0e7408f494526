use Rattle.std.proofs.Common.{ℕ, List, ap, arith, ◌∙◌}
use Rattle.mp4_frame.specs.Bytes.{number}
use Rattle.mp4_remux.proofs.SizeFields.{size_known}
use Rattle.mp4_remux.proofs.edits.inserting.size_field.Goals as goal

pub returns-clause-value : goal.returns-clause-value
returns-clause-value g c =
    size_known c.args.walk.now.bytes c.args.found.now.position c.in_ok-bytes.bytes.items c.u32_at.result
    c.in_ok-bytes.ensures.bytes (omega arith)
    (c.u32_at.ensures ∙ ap (λ (xs : List ℕ). number xs 0 4) c.deref.ensures.value)
