use Rattle.std.proofs.Common.{◌≡◌, ◌∙◌, ℕ, ap, rules, sym}
use Rattle.std.specs.Prelude.{option_copied}
use Rattle.mp4_diff.proofs.RowSteps.{copied_at}
use Rattle.std.specs.declared.option.Option.{Option}
use Rattle.mp4_diff.specs.Differences.{partner_box}
use Rattle.mp4_diff.proofs.changes.box_at.Goals as goal

pub returns-in-Some : goal.returns-in-Some
returns-in-Some c =
    let is : c.copied.result ≡ option_copied c.get.result = search rules in
    is ∙ copied_at c.args.boxes.now c.in-Some.number c.get.result c.get.ensures.lookup
    ∙ sym (ap (λ (n : Option ℕ). partner_box n c.args.boxes.now) c.in-Some.is)
