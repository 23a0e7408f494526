use Rattle.std.proofs.Common.{◌∙◌, ap}
use Rattle.mp4_info.specs.contracts.facts.InfoBoxesReadsInfo.TheImpl as own
use Rattle.mp4_info.proofs.Clauses.{heads_known}
use Rattle.mp4_info.proofs.facts.heads_in.Goals as goal
use Rattle.mp4_walk.specs.Walk.{Walk}

pub returns-clause-value : goal.returns-clause-value
returns-clause-value g c =
    heads_known (own.ghosts).readings c.args.walk.now.bytes _ _ c.args.boxes.now c.movie_in-inside_movie.result.now
    c.in_ok-found.field-0 c.in_ok-found-2.field-0 c.in_ok-found-3.field-0
    (ap (λ (w : Walk). w.bytes) c.in_ok-found.ensures.kept)
    (ap (λ (w : Walk). w.bytes) (c.in_ok-found-2.ensures.kept ∙ c.in_ok-found.ensures.kept))
    c.movie_in-inside_movie.ensures c.in_ok-found.ensures.value c.in_ok-found-2.ensures.value
    c.in_ok-found-3.ensures.value
