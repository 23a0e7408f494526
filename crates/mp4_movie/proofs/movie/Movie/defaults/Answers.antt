use Rattle.std.proofs.Common.{subst}
use Rattle.std.specs.Prelude.{IfOk, IfSome}
use Rattle.mp4_movie.specs.Defaults.{AreDefaults, trexes}
use Rattle.mp4_movie.specs.Movies.{MovieValue}
use Rattle.mp4_movie.proofs.Tracks.{of_boxes}
use Rattle.mp4_walk.specs.FileBoxes.{boxes_of}
use Rattle.mp4_movie.proofs.movie.Movie.defaults.Goals as goal

pub returns-clause-value : goal.returns-clause-value
returns-clause-value g c =
    subst (λ (film : MovieValue). IfSome film.bytes
    (λ file. IfOk c.defaults_of.result (λ d. AreDefaults file (trexes (boxes_of file)) d))) c.self.view_is
    (of_boxes c.self.inside.walk.bytes c.self.inside.boxes.items c.self.inside.tracks.items
    (λ file boxes. IfOk c.defaults_of.result (λ d. AreDefaults file (trexes boxes) d)) c.self.invariant
    (rw c.deref.ensures.value at c.defaults_of.ensures.value))
