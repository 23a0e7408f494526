use Rattle.std.proofs.Common.{◌≡◌, ◌<◌, ◌^◌, sym, subst, ap, ◌∙◌, arith, rules}
use Rattle.mp4_frame.specs.BoxType.{code_of, code_of-name_of}
use Rattle.mp4_frame.specs.Laws.{AreBytes}
use Rattle.mp4_compose.proofs.lossless.exact_in.Goals as goal

pub is_written_in-requires-clause-stable : goal.is_written_in-requires-clause-stable
is_written_in-requires-clause-stable g c =
    let are : AreBytes c.args.whole.now = Prim.search rules in
    let same : c.set_position.new.self.bytes.now ≡ c.args.whole.now = cc in
    let name : code_of c.from-name.result ≡ c.args.code =
    ap code_of c.from-name.ensures ∙ code_of-name_of c.args.code in
    let small : code_of c.from-name.result < 2 ^ 32 = omega (arith, name, c.ranges.code.fits) in
    let known = sym c.knows.ensures ∙ c.if-knows.true in
    λ s. (g.met.B.StableBox.stable c.from-name.result known small c.set_position.new.self.bytes.now _ _ c.in-Ok.value
    (subst AreBytes (sym same) are) c.in-Ok.ensures.answer).1 s
