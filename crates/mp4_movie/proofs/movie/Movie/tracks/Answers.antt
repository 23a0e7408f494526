use Rattle.std.proofs.Common.{subst}
use Rattle.std.specs.Prelude.{IfOk, IfSome}
use Rattle.mp4_movie.specs.Infos.{AreInfos}
use Rattle.mp4_movie.specs.Movies.{MovieValue, traks}
use Rattle.mp4_movie.proofs.Tracks.{of_movie}
use Rattle.mp4_walk.specs.FileBoxes.{boxes_of}
use Rattle.mp4_movie.proofs.movie.Movie.tracks.Goals as goal

pub returns-clause-value : goal.returns-clause-value
returns-clause-value g c =
    subst (λ (film : MovieValue). IfSome film.bytes
    (λ file. IfOk c.infos_of.result (λ ts. AreInfos file 0 (traks (boxes_of file)) ts.items))) c.self.view_is
    (of_movie c.self.inside.walk.bytes c.self.inside.boxes.items c.self.inside.tracks.items
    (λ file fs. IfOk c.infos_of.result (λ ts. AreInfos file 0 fs ts.items)) c.self.invariant
    (rw c.deref-2.ensures.value at (rw c.deref.ensures.value at c.infos_of.ensures.value)))
