use Rattle.std.proofs.Common.{◌++◌, take, ap, sym, subst, ◌∙◌, rules}
use Rattle.std.proofs.Math.Seq.{take-add}
use Rattle.std.proofs.lemmas.List.{take_rest}
use Rattle.std.specs.Io.KnownBytes.{Appends}
use Rattle.std.proofs.KnownBytes.{Appends-trans}
use Rattle.mp4_io.proofs.whole.write_all.Goals as goal

pub loop-at-preserved : goal.loop-at-preserved
loop-at-preserved g c =
    let bytes = c.args.bytes.now in
    let at = c.loop-at.at in
    let n = c.in-Some.n in
    let more = take-add at n bytes ∙ ap (λ l. take at bytes ++ take n l) (sym (take_rest bytes at)) in
    record {
      within = search rules;
      front = subst (Appends _ _) (sym more)
          (Appends-trans _ _ _ _ _ c.loop-at.invariant.front c.in-Some.ensures.bytes.0);
      mark = search rules;
    }
