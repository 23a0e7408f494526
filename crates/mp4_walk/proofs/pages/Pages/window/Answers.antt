use Rattle.std.proofs.Common.{ℕ, List, ◌≡◌, ◌+◌, ◌-◌, arith, subst, sym, ◌∙◌, ap, length, take, drop}
use Rattle.std.proofs.lemmas.Option.{IfSome_then}
use Rattle.mp4_walk.specs.Source.{IsWindow}
use Rattle.mp4_walk.proofs.Windows.{part_of_window}
use Rattle.mp4_walk.proofs.pages.Pages.window.Goals as goal

pub returns-clause-bytes : goal.returns-clause-bytes
returns-clause-bytes g c =
    let page = c.turn_to.new.page in
    let n = length c.args.buffer.now in
    let k = c.args.at - c.turn_to.new.start in
    let covered = c.in_ok-turn_to.ensures.covered in
    let long : k + n - k ≡ n = omega arith in
    rw (sym c.self.view_is)
    (IfSome_then (g.S.Source.all c.self.inside.source) c.turn_to.ensures.page.1 (λ B h.
    subst (IsWindow B c.args.at)
    (sym (c.copy_from_slice.ensures.after ∙ ap (λ (j : ℕ). take j (drop k c.deref.result.now)) long
    ∙ ap (λ (xs : List ℕ). take n (drop k xs)) c.deref.ensures.value))
    (part_of_window B page.items c.turn_to.new.start c.args.at n h.1 covered.0 (omega (arith, covered.1, page.ok.0)))))
