use Rattle.std.proofs.Common.{◌≡◌, ℕ, sym, subst, rules}
use Rattle.mp4_frame.specs.Bytes.{number}
use Rattle.mp4_frame.specs.Laws.{AreBytes}
use Rattle.mp4_compose.specs.Kept.{AreKept}
use Rattle.mp4_compose.proofs.KeptLists.{none_kept, one_more_kept}
use Rattle.mp4_compose.proofs.child_box.have_short_headers.Goals as goal

pub loop-at-preserved : goal.loop-at-preserved
loop-at-preserved g c =
    let content = c.args.content.now in
    let are : AreBytes content = Prim.search rules in
    let at = c.loop-at.at in
    let f = c.in-Ok.frame in
    let begins : f.start ≡ at = cc in
    let size : number content at 4 ≡ f.size = cc in
    λ after. c.loop-at.invariant
    (one_more_kept c.requires content are at f c.loop-at-test.true c.in-Ok.ensures.answer begins size
    (sym c.in-Ok.ensures.code)
    (subst (λ (n : ℕ). AreKept g.B.StreamBox.known g.B.StreamBox.named_reading g.B.Mp4Box.format content n)
    c.end-at.ensures after))

pub returns : goal.returns
returns g c =
    let content = c.args.content.now in
    let are : AreBytes content = Prim.search rules in
    λ _. c.loop-at.invariant (none_kept c.requires content are c.loop-at.at c.loop-at-test.false)
