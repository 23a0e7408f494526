use Rattle.std.proofs.Common.{◌≡◌, ◌∙◌, Some, ap, length, List}
use Rattle.std.specs.Prelude.{is_some}
use Rattle.mp4_check.specs.Headers.{movie_times}
use Rattle.mp4_check.specs.Media.{media_of}
use Rattle.mp4_check.proofs.Facts.{facts_same}
use Rattle.mp4_check.proofs.Outcomes.{if_is, some_at}
use Rattle.mp4_check.proofs.faults.movie_facts.Goals as goal
use Rattle.mp4_frame.specs.FourCC.{four_cc_of}
use Rattle.mp4_frame.specs.declared.codes.TheConstants as names
use Rattle.mp4_movie.specs.Levels.{first_in}
use Rattle.mp4_walk.specs.Walk.{Walk}
use Rattle.mp4_walk.specs.declared.tree_box.TreeBox.{TreeBox}

pub returns-clause-value : goal.returns-clause-value
returns-clause-value g c =
    if_is c.args.walk.now.bytes (λ file known. λ movie.
    let here : c.movie_times.new.walk.bytes ≡ Some file =
    ap (λ (w : Walk). w.bytes) c.in_ok-times.ensures.kept ∙ known in
    let media = some_at c.movie_times.new.walk.bytes file _ here c.in_ok-media.ensures.value in
    facts_same c.in_ok-media.media.extents.items (media_of (length file) c.args.boxes.now) c.in_ok-media.media.length
    (length file) c.in_ok-times.times _ c.has_box-is_fragmented.result _ media.0 media.1
    (some_at c.args.walk.now.bytes file _ known c.in_ok-times.ensures.value
    ∙ ap (λ (bs : List TreeBox). movie_times file bs) movie)
    (c.has_box-is_fragmented.ensures
    ∙ ap (λ (bs : List TreeBox). is_some (first_in 1 (four_cc_of names.MVEX) bs)) movie))
