use Rattle.std.proofs.Common.{◌≡◌, ◌∷◌, [], ◌++◌, List, ℕ, false, length, sym, ap, ◌∙◌, append_assoc, arith, ne_eqb}
use Rattle.std.proofs.Common.{subst}
use Rattle.std.specs.Vec.Iter.{into_iter_items}
use Rattle.mp4_remux.specs.Splices.{is_top}
use Rattle.mp4_remux.specs.declared.edits.splice.Splice.{Splice}
use Rattle.mp4_remux_files.specs.EditedFile.{IsInner}
use Rattle.mp4_remux_files.proofs.Parts.{inner_more, passes_same}
use Rattle.mp4_remux_files.proofs.editing.parted.Goals as goal

pub loop-splice-preserved : goal.loop-splice-preserved
loop-splice-preserved c =
    let at = c.loop-splice in
    let s = c.in-Some.splice in
    let rest = into_iter_items c.next.new.self in
    let steps = c.in-Some.ensures.steps in
    let is : into_iter_items at.splice-iterator ≡ s ∷ rest = steps.0 in
    let deep : is_top s ≡ false = ne_eqb s.depth 0 c.if-splice-eq0.false in
    record {
      end = at.invariant.end;
      tops = at.invariant.tops ∙ sym (passes_same is_top at.yielded s deep);
      inner = inner_more c.args.movie.now.position _ at.yielded at.inner.items _ s c.in-Some-inner_of.splice deep
          c.in_ok-push-in-Some-inner_of.ensures
          (subst (λ (e : ℕ). IsInner c.args.movie.now.position e s c.in-Some-inner_of.splice) at.invariant.end
          c.in-Some-inner_of.ensures) at.invariant.inner;
      left = at.invariant.left ∙ ap (λ (ss : List Splice). at.yielded ++ ss) is
          ∙ sym (append_assoc at.yielded (s ∷ []) rest);
      count = let was = at.invariant.count in
          let gone = steps.1 in
          let short = ap length is in
          omega arith;
    }
