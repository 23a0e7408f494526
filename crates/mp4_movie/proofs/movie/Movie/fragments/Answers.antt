use Rattle.std.proofs.Common.{subst}
use Rattle.std.specs.Prelude.{IfOk, IfSome}
use Rattle.mp4_movie.specs.Fragments.{AreFragments}
use Rattle.mp4_movie.specs.Movies.{MovieValue}
use Rattle.mp4_movie.proofs.Tracks.{of_boxes}
use Rattle.mp4_walk.specs.FileBoxes.{boxes_of}
use Rattle.mp4_movie.proofs.movie.Movie.fragments.Goals as goal

pub returns-clause-value : goal.returns-clause-value
returns-clause-value g c =
    subst (λ (film : MovieValue). IfSome film.bytes
    (λ file. IfOk c.fragments_of.result (λ ms. AreFragments file (boxes_of file) ms.items))) c.self.view_is
    (of_boxes c.self.inside.walk.bytes c.self.inside.boxes.items c.self.inside.tracks.items
    (λ file boxes. IfOk c.fragments_of.result (λ ms. AreFragments file boxes ms.items)) c.self.invariant
    (rw c.deref.ensures.value at c.fragments_of.ensures.value))
