use Rattle.std.proofs.Common.{◌+◌, drop, sym, ◌∙◌, arith}
use Rattle.std.proofs.lemmas.List.{length-drop}
use Rattle.mp4_walk.proofs.Searches.{meant, parts_from, next_part}
use Rattle.mp4_walk.proofs.search.meet.Goals as goal

pub returns : goal.returns
returns c xs =
    let path = c.args.path.now in
    let s = c.args.search in
    let x = c.args.found in
    let part = c.in-Some.part.now in
    let parts = drop (s.depth + 1) path in
    let lookup = c.in-Some.ensures.lookup in
    let within = lookup.3.0 in
    next_part path x xs s part parts (parts_from path s.depth part within lookup.1) c.if-found-depth.false
    (meant s.depth part.code x c.if-found-depth-2.false c.if-found-depth.false
    (sym c.has_code.ensures ∙ c.if-not-has_code.false))
    c.if-before-part.false (omega (arith, length-drop (s.depth + 1) path, within, c.if-depth-path.false))
