use Rattle.std.proofs.Common.{◌≡◌, ℕ, subst}
use Rattle.std.specs.Prelude.{IfOk, IfSome}
use Rattle.std.specs.declared.option.Option.{Option}
use Rattle.mp4_movie.specs.Movies.{MovieValue, first_with, traks}
use Rattle.mp4_movie.proofs.Tracks.{of_movie}
use Rattle.mp4_walk.specs.FileBoxes.{boxes_of}
use Rattle.mp4_movie.proofs.movie.Movie.number_of.Goals as goal

pub returns-clause-value : goal.returns-clause-value
returns-clause-value g c =
    subst (λ (film : MovieValue). IfSome film.bytes
    (λ file. IfOk c.number_at.result (λ (n : Option ℕ). n ≡ first_with file c.args.track_id 0 (traks (boxes_of
    file))))) c.self.view_is
    (of_movie c.self.inside.walk.bytes c.self.inside.boxes.items c.self.inside.tracks.items
    (λ file fs. IfOk c.number_at.result (λ (n : Option ℕ). n ≡ first_with file c.args.track_id 0 fs)) c.self.invariant
    (rw c.deref-2.ensures.value at (rw c.deref.ensures.value at c.number_at.ensures.value)))
