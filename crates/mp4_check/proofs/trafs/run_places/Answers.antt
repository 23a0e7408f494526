use Rattle.std.proofs.Common.{◌<◌, ◌^◌, ◌∙◌, refl, rules}
use Rattle.std.specs.Prelude.{IfSome}
use Rattle.mp4_check.proofs.RunPieces.{end_is, same_end, same_extents}
use Rattle.mp4_movie.specs.Fragments.{piece_of}
use Rattle.mp4_check.proofs.trafs.run_places.Goals as goal

pub returns-in-Ok : goal.returns-in-Ok
returns-in-Ok c =
    let x = piece_of c.args.fragment.now in
    let f = c.fragment-fragment.result in
    let is = c.fragment-fragment.ensures in
    let runs = c.in-Ok.ensures.items ∙ same_extents x f is in
    let small : IfSome c.end.result (λ end. end < 2 ^ 64) = search rules in
    let end = end_is f c.end.result c.in-Ok.ensures.few small c.end.ensures.some c.end.ensures.none ∙ same_end x f is in
    rw (runs, end) refl
