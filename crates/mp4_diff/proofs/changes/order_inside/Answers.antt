use Rattle.std.proofs.Common.{◌≡◌, ℕ, ◌+◌, ◌∙◌, List, [], None, ap, ap₂, drop, get_or, rules, subst, sym}
use Rattle.std.specs.Prelude.{IfOk}
use Rattle.std.specs.declared.option.Option.{Option}
use Rattle.mp4_content.specs.Paths.{next}
use Rattle.mp4_diff.proofs.DiffSteps.{no_box, order_is, take_rest}
use Rattle.mp4_diff.specs.Differences.{Difference, differences_of, order_after, order_at, order_inside}
use Rattle.mp4_diff.proofs.changes.order_inside.Goals as goal
use Rattle.mp4_walk.specs.declared.tree_box.TreeBox.{TreeBox}

pub returns-in-Some : goal.returns-in-Some
returns-in-Some c =
    let first = c.args.first.now in
    let partners = c.args.partners.now in
    let i = c.args.index in
    let xs = drop (i + 1) first in
    let ns = drop (i + 1) partners in
    let deep : c.saturating_add-depth.result ≡ next (get_or first i no_box).depth = search rules in
    subst (λ (ds : List Difference). IfOk c.order_after.result (λ whats. differences_of whats.items ≡ ds))
    (ap₂ (λ (boxes : List TreeBox) (ms : List (Option ℕ)).
    order_after c.saturating_add-depth.result boxes ms c.args.second.now c.in-Some.number)
    (take_rest (i + 1) first) (take_rest (i + 1) partners)
    ∙ ap (λ (k : ℕ). order_after k xs ns c.args.second.now c.in-Some.number) deep
    ∙ ap (order_inside (get_or first i no_box) xs ns c.args.second.now) (sym c.in-Some.is)
    ∙ sym (order_is first partners c.args.second.now i no_box None c.requires.boxes c.requires.partners))
    c.order_after.ensures

pub returns-in-None : goal.returns-in-None
returns-in-None c =
    let first = c.args.first.now in
    let partners = c.args.partners.now in
    let i = c.args.index in
    let none : order_at first partners c.args.second.now i ≡ [] =
    order_is first partners c.args.second.now i no_box None c.requires.boxes c.requires.partners
    ∙ ap (order_inside (get_or first i no_box) (drop (i + 1) first) (drop (i + 1) partners) c.args.second.now)
    c.in-None.is in
    search rules
