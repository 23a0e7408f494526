use Rattle.std.proofs.Common.{ℕ, ◌+◌, ◌-◌, List, [], ◌∷◌, ◌++◌, length, ap, sym, subst, ◌∙◌, arith}
use Rattle.std.specs.Cmp.Lexicographic.{same_text}
use Rattle.mp4_lemmas.proofs.Lists.{same_rest}
use Rattle.mp4_normal.specs.declared.change.Change.{Change}
use Rattle.mp4_normal.specs.Changes.{InOrder, made_from, part}
use Rattle.mp4_normal.proofs.Replaced.{same_made, same_order, other_made, other_order}
use Rattle.mp4_normal.proofs.change.Changes.replace.Goals as goal

pub returns-then-eq-clause-made : goal.returns-then-eq-clause-made
returns-then-eq-clause-made c =
    let same = same_rest c.args.self.now.fresh.items c.deref.result.now (part c.args.stream.now c.args.begin c.args.end)
    c.args.from c.deref.ensures.value (same_text _ _ c.if-eq.ensures) in
    same_made c.requires.before c.args.stream.now c.args.end c.requires.fresh c.requires.order
    c.truncate.new.self.items c.truncate.ensures.items same

pub returns-then-eq-clause-before : goal.returns-then-eq-clause-before
returns-then-eq-clause-before c =
    record {
      order = same_order c.requires.before c.args.stream.now c.args.end c.requires.fresh c.requires.order
          c.truncate.new.self.items c.truncate.ensures.items;
      fewer = omega (arith, c.requires.before.fewer, c.requires.order);
    }

pub returns-clause-made : goal.returns-clause-made
returns-clause-made c =
    ap (λ (cs : List Change). made_from c.args.self.now.fresh.items c.args.stream.now c.args.end 0 0 cs)
    c.in_ok-push.ensures.items
    ∙ other_made c.requires.before c.args.stream.now c.args.end c.requires.fresh c.requires.order
    c.len-to.result (c.len-to.ensures ∙ sym c.deref.ensures.len ∙ ap length c.deref.ensures.value)

pub returns-clause-before : goal.returns-clause-before
returns-clause-before c =
    let all = c.len-to.ensures ∙ sym c.deref.ensures.len ∙ ap length c.deref.ensures.value in
    let x : Change = record { begin = c.args.begin; end = c.args.end; to = c.len-to.result } in
    let gone = c.args.self.now.gone + (c.args.end - c.args.begin) in
    let order = other_order c.requires.before c.args.stream.now c.args.end c.requires.fresh c.requires.order
    c.len-to.result all c.max-self.result (omega (arith, c.max-self.ensures))
    (omega (arith, c.max-self.ensures, c.saturating_sub.ensures)) in
    record {
      order = subst (λ (cs : List Change).
          InOrder c.max-self.result c.args.end (length c.args.self.now.fresh.items) gone 0 0 0 cs)
          (sym c.in_ok-push.ensures.items)
          (subst (λ (k : ℕ). InOrder c.max-self.result c.args.end k gone 0 0 0 (c.args.self.now.list.items ++ x ∷ []))
          all order);
      fewer = omega (arith, c.requires.before.fewer, c.requires.order);
    }
