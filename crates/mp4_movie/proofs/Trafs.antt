-- The runs of a traf, one after the other.
use Rattle.std.proofs.Common.{◌≡◌, ℕ, List, [], ◌∷◌, ◌++◌, None, Some, Result, Ok, Err, refl, sym, ap, subst, ◌∙◌}
use Rattle.std.proofs.Common.{append_assoc, append-nil}
use Rattle.mp4_frame.specs.FourCC.{four_cc_of}
use Rattle.mp4_frame.specs.declared.codes.TheConstants as codes
use Rattle.mp4_movie.specs.Levels.{Found, first_in, all_in}
use Rattle.mp4_movie.specs.Problems.{Problem, Returns, ◌>>=◌}
use Rattle.mp4_movie.specs.Reads.{value_at}
use Rattle.mp4_movie.specs.Trafs.{runs_of}
use Rattle.mp4_movie.specs.declared.error.MovieError.{MovieError}
use Rattle.mp4_movie.specs.declared.error.MovieError.TheVariants as errors
use Rattle.mp4_movie.proofs.Chains.{ends}
use Rattle.mp4_movie.proofs.Levels.{next_in}
use Rattle.mp4_tables.specs.Boxes.{reads_trun}
use Rattle.mp4_tables.specs.declared.trun.TrunBox.{TrunBox}
use Rattle.mp4_walk.specs.declared.tree_box.TreeBox.{TreeBox}

-- runs, and those that are left
abbrev pub after_runs : List TrunBox → Result (List TrunBox) Problem → Result (List TrunBox) Problem
after_runs old (Ok vs) = Ok (old ++ vs)
after_runs old (Err p) = Err p

-- the runs of the traf are these runs and those that are left, if these can be read
abbrev pub RunsSoFar : List ℕ → List TreeBox → List TreeBox → List TrunBox → Type 0
RunsSoFar file boxes rest old =
    runs_of file (all_in 2 (four_cc_of codes.TRUN) boxes)
    ≡ after_runs old (runs_of file (all_in 2 (four_cc_of codes.TRUN) rest))

one_before : (old : List TrunBox) (v : TrunBox) (r : Result (List TrunBox) Problem)
    → after_runs old (r >>= λ vs. Ok (v ∷ vs)) ≡ after_runs (old ++ v ∷ []) r
one_before old v (Ok vs) = ap (λ (ws : List TrunBox). let o : Result (List TrunBox) Problem = Ok ws in o)
    (sym (append_assoc old (v ∷ []) vs))
one_before old v (Err p) = refl

-- one more run
pub run_on : (file : List ℕ) (boxes rest : List TreeBox) (f : Found) (old new : List TrunBox) (v : TrunBox)
    → Some f ≡ first_in 2 (four_cc_of codes.TRUN) rest → new ≡ old ++ v ∷ []
    → value_at reads_trun codes.TRUN file f.box ≡ Ok v → RunsSoFar file boxes rest old
    → RunsSoFar file boxes f.after new
run_on file boxes rest f old new v is items here h =
    let tail = runs_of file (all_in 2 (four_cc_of codes.TRUN) f.after) in
    h ∙ ap (λ (fs : List Found). after_runs old (runs_of file fs))
    (next_in 2 (four_cc_of codes.TRUN) rest (Some f) is)
    ∙ ap (λ (d : Result TrunBox Problem). after_runs old (d >>= λ w. tail >>= λ vs. Ok (w ∷ vs))) here
    ∙ one_before old v tail
    ∙ ap (λ (vs : List TrunBox). after_runs vs tail) (sym items)

passes : (old : List TrunBox) (e : MovieError) (r : Result (List TrunBox) Problem)
    → Returns {A = List TrunBox} (Err e) r
    → Returns {A = List TrunBox} (Err e) (after_runs old r)
passes old (errors.Io _) r h = tt
passes old (errors.Box e) r h = (h.0, ap (λ (s : Result (List TrunBox) Problem). after_runs old s) h.1, h.2)

-- a run that can't be read
pub run_ends : (file : List ℕ) (boxes rest : List TreeBox) (f : Found) (old : List TrunBox) (e : MovieError)
    → Some f ≡ first_in 2 (four_cc_of codes.TRUN) rest
    → Returns {A = TrunBox} (Err e) (value_at reads_trun codes.TRUN file f.box) → RunsSoFar file boxes rest old
    → Returns {A = List TrunBox} (Err e) (runs_of file (all_in 2 (four_cc_of codes.TRUN) boxes))
run_ends file boxes rest f old e is here h =
    let tail = runs_of file (all_in 2 (four_cc_of codes.TRUN) f.after) in
    let more : TrunBox → Result (List TrunBox) Problem = λ w. tail >>= λ vs. Ok (w ∷ vs) in
    subst (λ (r : Result (List TrunBox) Problem). Returns {A = List TrunBox} (Err e) r)
    (sym (h ∙ ap (λ (fs : List Found). after_runs old (runs_of file fs))
    (next_in 2 (four_cc_of codes.TRUN) rest (Some f) is)))
    (passes old e (value_at reads_trun codes.TRUN file f.box >>= more)
    (ends e (value_at reads_trun codes.TRUN file f.box) more here))

-- no run is left
pub at_end : (file : List ℕ) (boxes rest : List TreeBox) (runs : List TrunBox)
    → None ≡ first_in 2 (four_cc_of codes.TRUN) rest → RunsSoFar file boxes rest runs
    → runs_of file (all_in 2 (four_cc_of codes.TRUN) boxes) ≡ Ok runs
at_end file boxes rest runs is h =
    h ∙ ap (λ (fs : List Found). after_runs runs (runs_of file fs))
    (next_in 2 (four_cc_of codes.TRUN) rest None is)
    ∙ ap (λ (ws : List TrunBox). let o : Result (List TrunBox) Problem = Ok ws in o) (append-nil runs)
