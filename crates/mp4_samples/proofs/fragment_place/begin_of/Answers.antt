use Rattle.std.proofs.Common.{◌∙◌, ap, ℤ, rules}
use Rattle.std.specs.Int.{w128}
use mir.Val.{SFits}
use Rattle.std.proofs.lemmas.Int.{to_z-of_z}
use Rattle.mp4_tables.specs.declared.trun.TrunBox.{TrunBox}
use Rattle.mp4_samples.specs.Fragments.{base_of, start_after}
use Rattle.mp4_samples.proofs.Fragments.{opened}
use Rattle.mp4_samples.proofs.fragment_place.begin_of.Goals as goal

pub returns-then-place-eq0 : goal.returns-then-place-eq0
returns-then-place-eq0 c =
    let f = c.args.fragment.now in
    let p = c.args.place in
    let fits : SFits w128 c.start_after.result = search rules in
    let kept = to_z-of_z w128 c.start_after.result fits in
    let first = opened f p.run p.index p.offset c.if-place-eq0.true c.requires.at.offset in
    let passed : SFits w128 p.offset = search rules in
    let end = ap (λ (z : ℤ). start_after (base_of f) z c.args.trun.now.data_offset) (to_z-of_z w128 p.offset passed) in
    kept ∙ c.start_after.ensures ∙ end
    ∙ ap (λ (t : TrunBox). start_after (base_of f) p.offset t.data_offset) c.requires.run ∙ first
