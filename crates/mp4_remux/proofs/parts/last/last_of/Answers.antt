use Rattle.std.proofs.Common.{◌≡◌, ℕ, ◌+◌, ◌<◌, ◌≤◌, sym, ap, subst, ◌∙◌, arith, rules}
use Rattle.mp4_remux.specs.Parts.{LastOf}
use Rattle.mp4_remux.proofs.LastSamples.{last_more, last_of_all}
use Rattle.mp4_remux.proofs.parts.last.last_of.Goals as goal

pub samples-preserved : goal.samples-preserved
samples-preserved g c =
    let inv = c.samples.invariant in
    let t = g.M.Media.teller c.args.samples in
    let gives = rw c.in-Ok-Some.field-0-is at (c.in-Ok-Some.ensures.gives inv.going) in
    let next_is : c.in-Some.next ≡ c.samples.number + 1 = search rules in
    let less = rw inv.same at gives.0 in
    let told = rw (inv.same, inv.number) at gives.1 in
    let more = last_more g.M.Media.is_sample t c.args.line c.args.bound (g.met.M.Media.unique t) c.samples.number
    c.in-Ok-Some.sample c.samples.last c.later-last.result told c.later-last.ensures inv.last in
    let going = rw c.in-Ok-Some.field-0-is at c.in-Ok-Some.ensures.going in
    record {
      same = c.next.ensures.same ∙ inv.same;
      number = gives.2 ∙ ap (λ (x : ℕ). x + 1) inv.number ∙ sym next_is;
      going = going inv.going;
      within = omega (arith, less, inv.number, next_is);
      last = subst (λ (k : ℕ). LastOf g.M.Media.is_sample t c.args.line c.args.bound k c.later-last.result)
          (sym next_is) more;
    }

pub returns-in-Ok-None : goal.returns-in-Ok-None
returns-in-Ok-None g c =
    let inv = c.samples.invariant in
    let t = g.M.Media.teller c.args.samples in
    let gives = rw c.in-Ok-None.field-0-is at (c.in-Ok-None.ensures.gives inv.going) in
    let all = rw (inv.same, inv.number) at gives in
    last_of_all g.M.Media.is_sample t c.args.line c.args.bound c.samples.number (g.M.Media.count t) c.samples.last
    (omega (arith, inv.within)) all inv.last
