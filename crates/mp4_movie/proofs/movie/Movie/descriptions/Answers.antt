use Rattle.std.proofs.Common.{ℕ, Vec, Global, subst}
use Rattle.mp4_movie.specs.Movies.{MovieValue, of_track, traks}
use Rattle.mp4_movie.specs.Descriptions.{descriptions_of}
use Rattle.mp4_movie.specs.Problems.{Returns}
use Rattle.mp4_movie.specs.Trafs.{ReturnsForAs, map_ok}
use Rattle.mp4_movie.proofs.Tracks.{of_movie}
use Rattle.mp4_walk.specs.FileBoxes.{boxes_of}
use Rattle.mp4_movie.proofs.movie.Movie.descriptions.Goals as goal

pub returns-clause-value : goal.returns-clause-value
returns-clause-value g c =
    subst (λ (film : MovieValue). ReturnsForAs (λ (v : Vec ℕ Global). v.items) film.bytes c.descriptions_at.result
    (λ file. of_track (descriptions_of file) c.args.number (traks (boxes_of file)))) c.self.view_is
    (of_movie c.self.inside.walk.bytes c.self.inside.boxes.items c.self.inside.tracks.items
    (λ file fs. Returns (map_ok (λ (v : Vec ℕ Global). v.items) c.descriptions_at.result)
    (of_track (descriptions_of file) c.args.number fs)) c.self.invariant
    (rw c.deref-2.ensures.value at (rw c.deref.ensures.value at c.descriptions_at.ensures.value)))
