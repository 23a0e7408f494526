use Rattle.std.proofs.Common.{◌≡◌, ◌∙◌, ◌<◌, ◌^◌, List, length, refl, rules, subst}
use Rattle.std.specs.Prelude.{OnOk}
use Rattle.std.specs.Io.KnownBytes.{Appends}
use Rattle.mp4_lemmas.proofs.Outcomes.{both_known}
use Rattle.mp4_content.specs.Pieces.{bytes_of_box}
use Rattle.mp4_content.proofs.PieceSteps.{box_bytes}
use Rattle.mp4_inspect.proofs.get.write_box.Goals as goal
use Rattle.mp4_walk.specs.Source.{piece}

pub returns-clause-bytes : goal.returns-clause-bytes
returns-clause-bytes g c =
    let x = c.args.found.now in
    let content = c.args.content in
    let a = g.W.Write.contents c.args.output.now.inner in
    let b = g.W.Write.contents c.write_pieces.new.output.inner in
    both_known c.args.walk.now.bytes c.args.walk.now.bytes refl c.length.ensures.known c.write_pieces.ensures.bytes
    (λ file total written.
    let short : length file < 2 ^ 64 = search rules in
    let whole : piece file c.start_of-start.result c.present-size.result ≡ bytes_of_box content file x =
    c.present-size.ensures.bytes file total
    ∙ rw (c.start_of-start.ensures, c.size_of.ensures) (box_bytes content file x short) in
    subst (λ (bs : List _). OnOk c.write_pieces.result (Appends a b bs)) whole written)
