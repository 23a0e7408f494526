use Rattle.std.proofs.Common.{◌≡◌, ◌∙◌, Result, Ok, Err, ap, sym, subst, ℕ}
use Rattle.std.proofs.lemmas.Result.{err_from_is_err_and}
use Rattle.std.specs.declared.option.Option.{Option}
use Rattle.mp4_movie.specs.Ends.{end_by, time_end_of}
use Rattle.mp4_movie.specs.Movies.{of_track, samples_of, traks}
use Rattle.mp4_movie.specs.Problems.{Problem, Returns, ◌>>=◌}
use Rattle.mp4_movie.specs.declared.sample_boxes.SampleBoxes.{SampleBoxes}
use Rattle.mp4_movie.proofs.Chains.{ends, some_then}
use Rattle.mp4_movie.proofs.Tracks.{track_then}
use Rattle.mp4_walk.specs.FileBoxes.{boxes_of}
use Rattle.mp4_movie.proofs.movie.Movie.time_end.Goals as goal

pub returns-in_err-samples-clause-value : goal.returns-in_err-samples-clause-value
returns-in_err-samples-clause-value g c =
    let p = err_from_is_err_and c.from_residual.result c.from_residual.ensures.1 in
    let end : Option SampleBoxes → Result ℕ Problem = λ tables. Ok (end_by tables) in
    rw (p.1, p.2)
    (some_then _ _ _
    (λ file h. subst (λ (r : Result ℕ Problem). Returns {A = ℕ} (Err c.in_err-samples.field-0.0) r)
    (sym (track_then (samples_of file) end c.args.number (traks (boxes_of file))))
    (ends c.in_err-samples.field-0.0 (of_track (samples_of file) c.args.number (traks (boxes_of file))) end h))
    c.in_err-samples.ensures.value)

pub returns-clause-value : goal.returns-clause-value
returns-clause-value g c =
    let end : Option SampleBoxes → Result ℕ Problem = λ tables. Ok (end_by tables) in
    rw c.end_by.ensures
    (some_then c.args.self.now.bytes
    (λ file. of_track (samples_of file) c.args.number (traks (boxes_of file)) ≡ Ok c.in_ok-samples.field-0)
    (λ file. of_track (time_end_of file) c.args.number (traks (boxes_of file)) ≡ Ok (end_by c.in_ok-samples.field-0))
    (λ file h. track_then (samples_of file) end c.args.number (traks (boxes_of file))
    ∙ ap (λ (r : Result (Option SampleBoxes) Problem). r >>= end) h)
    c.in_ok-samples.ensures.value)
