use Rattle.std.proofs.Common.{ℕ, Vec, Global}
use Rattle.mp4_movie.specs.Descriptions.{descriptions_of}
use Rattle.mp4_movie.specs.Trafs.{map_ok}
use Rattle.mp4_movie.proofs.Tracks.{returns_at, returns_past}
use Rattle.mp4_movie.proofs.movie.descriptions_at.Goals as goal

pub returns-then-number-places-clause-value : goal.returns-then-number-places-clause-value
returns-then-number-places-clause-value g c =
    returns_past c.args.walk.now.bytes descriptions_of c.args.number c.args.boxes.now c.args.places.now
    c.from.result c.from.ensures c.if-number-places.true

pub returns-clause-value : goal.returns-clause-value
returns-clause-value g c =
    returns_at c.args.walk.now.bytes descriptions_of c.args.number c.args.boxes.now c.args.places.now _
    c.boxes_after.result.now (map_ok (λ (v : Vec ℕ Global). v.items) c.descriptions_of.result)
    c.if-number-places.false c.boxes_after.ensures
    c.descriptions_of.ensures.value
