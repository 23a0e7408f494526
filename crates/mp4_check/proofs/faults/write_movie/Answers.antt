use Rattle.std.proofs.Common.{◌≡◌, ◌∙◌, [], List, Some, ap, subst, ℕ}
use Rattle.std.specs.declared.option.Option.{Option}
use Rattle.mp4_check.specs.FaultValues.{values_of}
use Rattle.mp4_check.specs.Faults.{facts_of}
use Rattle.mp4_check.specs.TrackFaults.{Facts, IsMet, faults_of_tracks, longest_track, movie_faults, value_of_facts}
use Rattle.mp4_check.proofs.FileSteps.{all_written}
use Rattle.mp4_check.proofs.Outcomes.{always_ok, if_is, some_at}
use Rattle.mp4_check.proofs.ShownFaults.{form_laws}
use Rattle.mp4_check.proofs.faults.write_movie.Goals as goal
use Rattle.mp4_frame.specs.FourCC.{four_cc_of}
use Rattle.mp4_frame.specs.declared.codes.TheConstants as names
use Rattle.mp4_movie.specs.Levels.{all_in}
use Rattle.mp4_movie.specs.Movies.{traks}
use Rattle.mp4_walk.specs.Walk.{Walk}
use Rattle.mp4_walk.specs.declared.tree_box.TreeBox.{TreeBox}

pub returns-clause-value : goal.returns-clause-value
returns-clause-value g c =
    let boxes = c.args.boxes.now in
    let movie = c.movie_in-movie.result.now in
    let code = four_cc_of names.TRAK in
    if_is c.args.walk.now.bytes (λ file known. λ is none.
    let here : c.movie_facts.new.walk.bytes ≡ Some file =
    ap (λ (w : Walk). w.bytes) c.in_ok-facts.ensures.kept ∙ known in
    let facts = value_of_facts c.in_ok-facts.facts in
    let all = facts_of file boxes in
    let same : facts ≡ all =
    some_at c.args.walk.now.bytes file _ known c.in_ok-facts.ensures.value c.movie_in-movie.ensures in
    let stored : IsMet file (all_in 1 code movie) c.write_tracks.new.met =
    some_at c.movie_facts.new.walk.bytes file _ here c.in_ok-tracks.ensures.met none in
    let given = rw c.in_ok-faults.ensures.ok at c.movie_faults.ensures in
    let longest : c.write_tracks.new.met.longest ≡ longest_track file (traks boxes) =
    stored.longest_is ∙ ap (λ (bs : List TreeBox). longest_track file (all_in 1 code bs)) c.movie_in-movie.ensures in
    all_written (g.F.FaultForm.writes c.args.form)
    (form_laws g.F.FaultForm.writes g.F.FaultForm.writes_none g.F.FaultForm.writes_more c.args.form) c.args.told
    c.in_ok-tracks.tracks c.write_all_faults.result
    (faults_of_tracks file all [] 0 (traks boxes)) (movie_faults all (longest_track file (traks boxes)))
    (faults_of_tracks file facts [] 0 (all_in 1 code movie)) (values_of c.in_ok-faults.faults.items)
    c.args.output.now c.write_tracks.new.output
    c.write_all_faults.new.output
    (ap (λ (x : Facts). faults_of_tracks file x [] 0 (all_in 1 code movie)) same
    ∙ ap (λ (bs : List TreeBox). faults_of_tracks file all [] 0 (all_in 1 code bs)) c.movie_in-movie.ensures)
    (given ∙ ap (λ (x : Facts). movie_faults x c.write_tracks.new.met.longest) same
    ∙ ap (λ (o : Option ℕ). movie_faults all o) longest)
    (some_at c.movie_facts.new.walk.bytes file _ here c.in_ok-tracks.ensures.value none)
    (rw c.deref.ensures.value at c.write_all_faults.ensures))

pub returns-clause-met : goal.returns-clause-met
returns-clause-met g c =
    let code = four_cc_of names.TRAK in
    if_is c.args.walk.now.bytes (λ file known. λ is none.
    let here : c.movie_facts.new.walk.bytes ≡ Some file =
    ap (λ (w : Walk). w.bytes) c.in_ok-facts.ensures.kept ∙ known in
    always_ok c.write_all_faults.result
    (subst (λ (bs : List TreeBox). IsMet file (all_in 1 code bs) c.write_tracks.new.met) c.movie_in-movie.ensures
    (some_at c.movie_facts.new.walk.bytes file _ here c.in_ok-tracks.ensures.met none)))
