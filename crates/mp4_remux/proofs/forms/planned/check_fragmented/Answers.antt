use Rattle.std.proofs.Common.{◌∙◌, ap, arith}
use Rattle.mp4_movie.specs.Movies.{MovieValue}
use Rattle.mp4_remux.proofs.BothForms.{all_empty, empty_more}
use Rattle.mp4_remux.proofs.forms.planned.check_fragmented.Goals as goal

pub loop-number-preserved : goal.loop-number-preserved
loop-number-preserved g c =
    let inv = c.loop-number.invariant in
    record {
      movie = c.check_empty.ensures.kept ∙ inv.movie;
      empty = empty_more c.loop-number.movie.bytes c.args.movie.now.bytes c.loop-number.number
          (ap (λ (m : MovieValue). m.bytes) inv.movie) c.in_ok-check_empty.ensures.value inv.empty;
    }

pub returns-clause-value : goal.returns-clause-value
returns-clause-value g c =
    all_empty c.args.movie.now.bytes c.loop-number.number c.in_ok-tracks.tracks.items
    (omega (arith, c.loop-number-test.false, c.len-number-end.ensures)) c.in_ok-tracks.ensures.value
    c.loop-number.invariant.empty
