use Rattle.mp4_remux.proofs.CutTracks.{last_in_file}
use Rattle.mp4_remux.proofs.parts.check.last_with.Goals as goal

pub returns-clause-value : goal.returns-clause-value
returns-clause-value g c =
    last_in_file c.args.movie.now.bytes c.args.number c.in_ok-tables.tables c.args.fragments.now c.args.line
    c.args.bound c.last_in.result c.in_ok-tables.ensures.value c.last_in.ensures
