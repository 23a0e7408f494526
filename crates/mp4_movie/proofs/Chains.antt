-- The answer of a call follows from the answers of the calls in it.
use Rattle.std.proofs.Common.{◌≡◌, ℕ, List, ◌++◌, Result, Err, None, Some, sym, ap, subst, ◌∙◌, append_assoc}
use Rattle.std.specs.Prelude.{IfSome}
use Rattle.std.specs.declared.option.Option.{Option}
use Rattle.mp4_frame.specs.FourCC.{four_cc_of}
use Rattle.mp4_frame.specs.declared.four_cc.FourCC.{FourCC}
use Rattle.mp4_walk.specs.declared.tree_box.TreeBox.{TreeBox}
use Rattle.mp4_movie.specs.declared.error.BoxError.TheVariants as boxes
use Rattle.mp4_frame.specs.Reading.{Fault, Reading}
use Rattle.mp4_frame.specs.declared.error.Error.{Error}
use Rattle.mp4_movie.specs.Problems.{Problem, Faulty, Records, Returns, ◌>>=◌}
use Rattle.mp4_movie.specs.Reads.{IsReadAs, value_at, or_fault, own_reading}
use Rattle.mp4_movie.specs.declared.error.MovieError.{MovieError}
use Rattle.mp4_movie.specs.declared.error.MovieError.TheVariants as errors

-- an error that ends a call ends those around it
pub ends : {A C : Type 0} (e : MovieError) (d : Result A Problem) (f : A → Result C Problem)
    → Returns {A = A} (Err e) d → Returns {A = C} (Err e) (d >>= f)
ends {A} {C} (errors.Io _) d f h = tt
ends {A} {C} (errors.Box e) d f h = (h.0, ap (λ (r : Result A Problem). r >>= f) h.1, h.2)

pub some_then : {A : Type 0} (o : Option A) (P Q : A → Type 0) → ((a : A) → P a → Q a) → IfSome o P → IfSome o Q
some_then None P Q f h = tt
some_then (Some a) P Q f h = f a h

-- what holds for a list with more items, after some of these were appended
pub with_more : {A : Type 0} (P : List A → Type 0) (old new one more : List A) → new ≡ old ++ one
    → P (old ++ (one ++ more)) → P (new ++ more)
with_more {A} P old new one more is h =
    subst P (sym (ap (λ (xs : List A). xs ++ more) is ∙ append_assoc old one more)) h

-- the error of a box that has a fault
pub fault_recorded : {A : Type 0} (reads : List ℕ → ℕ → ℕ → Reading A) (file : List ℕ) (code : ℕ) (x : TreeBox)
    (e : Error) (c : FourCC) → c ≡ four_cc_of code → IsReadAs (Err e) (own_reading reads file x).outcome
    → Records {A = A} (Err (boxes.Fault c x.position e)) (value_at reads code file x)
fault_recorded {A} reads file code x e c is h = (
  Faulty (four_cc_of code) x.position h.0,
  ap (λ (r : Result A Fault). or_fault (four_cc_of code) x.position r) h.2,
  (h.0, h.1, ap (λ (d : FourCC). Faulty d x.position h.0) (sym is)),
)

-- the error of a box at a position
pub fault_returned : {A : Type 0} (code position : ℕ) (c : FourCC) (e : Error) (r : Result A Fault)
    → c ≡ four_cc_of code → IsReadAs (Err e) r
    → Returns {A = A} (Err (errors.Box (boxes.Fault c position e))) (or_fault (four_cc_of code) position r)
fault_returned {A} code position c e r is h = (
  Faulty (four_cc_of code) position h.0,
  ap (λ (o : Result A Fault). or_fault (four_cc_of code) position o) h.2,
  (h.0, h.1, ap (λ (d : FourCC). Faulty d position h.0) (sym is)),
)
