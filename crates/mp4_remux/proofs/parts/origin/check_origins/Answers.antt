use Rattle.std.proofs.Common.{ap, arith, ◌∙◌, rules, sym}
use Rattle.mp4_movie.specs.Movies.{MovieValue}
use Rattle.mp4_remux.proofs.Origins.{all_origins, one_more_origin}
use Rattle.mp4_remux.proofs.parts.origin.check_origins.Goals as goal

pub loop-number-preserved : goal.loop-number-preserved
loop-number-preserved g c =
    let inv = c.loop-number.invariant in
    record {
      movie = c.check_origin.ensures.kept ∙ inv.movie;
      origins = one_more_origin c.args.part.now c.loop-number.movie.bytes c.args.movie.now.bytes c.loop-number.number
          c.in_ok-scale.scale c.boxes.result.now c.in_ok-lists.lists.items c.in_ok-found.found
          c.in_ok-tracks.tracks.items c.index-in-loop-number.result.now
          (ap (λ (m : MovieValue). m.bytes) inv.movie)
          (omega (arith, c.loop-number-test.true, c.len-number-end.ensures)) (search rules) c.in_ok-scale.ensures.value
          (search rules) c.in_ok-lists.ensures (search rules) (search rules) inv.origins;
    }

pub returns-clause-value : goal.returns-clause-value
returns-clause-value g c =
    all_origins c.args.part.now c.args.movie.now.bytes c.loop-number.number c.in_ok-tracks.tracks.items
    (omega (arith, c.loop-number-test.false, c.len-number-end.ensures)) (search rules) c.loop-number.invariant.origins
