use Rattle.mp4_remux_files.proofs.Plans.{moves_followed}
use Rattle.mp4_remux_files.proofs.planning.splices_of.Goals as goal

pub returns-clause-moves : goal.returns-clause-moves
returns-clause-moves g c =
    moves_followed c.args.shift c.args.boxes.now c.args.movie.now c.in_ok-made.made.items c.in_ok-splices.splices.items
    c.in_ok-all.all.items c.args.walk.now.bytes c.in_ok-made.ensures c.in_ok-splices.ensures c.in_ok-all.ensures.follow
