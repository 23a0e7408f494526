use Rattle.mp4_remux_files.proofs.Plans.{planned}
use Rattle.mp4_remux_files.proofs.planning.plan_move.Goals as goal

pub returns-clause-plan : goal.returns-clause-plan
returns-clause-plan g c =
    planned c.args.shift c.args.size c.in_ok-movie.movie.items c.in_ok-source.all.items c.in_ok-plan.plan
    (g.S.Source.all c.args.source) (g.S.Source.all c.movie_of.new.source) c.movie_of.ensures.keeps
    c.in_ok-movie.ensures.bytes c.in_ok-movie.ensures.window
    (rw c.as_slice.ensures.value at c.in_ok-source.ensures.moves)
    (rw c.as_slice-2.ensures.value at c.in_ok-plan.ensures)
