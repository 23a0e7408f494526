-- The problems of a movie, and how the result of a call matches an answer. Each question about a file has one answer: a
-- value or a problem.
use Rattle.std.specs.Prelude.{◌≡◌, ℕ, List, Result, Ok, Err, IfSome}
use Rattle.std.specs.Borrow.{Bor}
use Rattle.std.specs.declared.option.Option.{Option}
use Rattle.mp4_frame.specs.Reading.{Fault, End, Invalid, NotFound}
use Rattle.mp4_frame.specs.declared.error.Error.{Error}
use Rattle.mp4_frame.specs.declared.error.Error.TheVariants as refusals
use Rattle.mp4_frame.specs.declared.four_cc.FourCC.{FourCC}
use Rattle.mp4_walk.specs.declared.tree_box.TreeBox.{TreeBox}
use Rattle.mp4_movie.specs.declared.error.BoxError.{BoxError}
use Rattle.mp4_movie.specs.declared.error.BoxError.TheVariants as boxes
use Rattle.mp4_movie.specs.declared.error.MovieError.{MovieError}
use Rattle.mp4_movie.specs.declared.error.MovieError.TheVariants as errors

-- a mandatory box of this code is missing; the box of this code at this position has this as its first fault; a
-- fragment of the track with this track_ID has no defaults; or the data before a fragment in the moof at this position,
-- of the track with this track_ID, have no known end
pub data Problem : Type 0 where
  NoBox : FourCC → Problem
  Faulty : FourCC → ℕ → Fault → Problem
  NoTrex : ℕ → Problem
  NoBase : ℕ → ℕ → Problem

-- the value, or the first problem
infixl 10 ◌>>=◌
abbrev pub ◌>>=◌ : {A C : Type 0} → Result A Problem → (A → Result C Problem) → Result C Problem
(Ok v) >>= f = f v
(Err p) >>= f = Err p

-- an error is that of a fault
abbrev pub IsFaultOf : Error → Fault → Type 0
IsFaultOf refusals.IoError k = k ≡ End
IsFaultOf (refusals.InvalidData _) k = k ≡ Invalid
IsFaultOf (refusals.BoxNotFound name) k = k ≡ NotFound name
IsFaultOf _ k = ⊥

-- an error is that of a problem
abbrev pub IsErrorOf : BoxError → Problem → Type 0
IsErrorOf (boxes.Missing code) p = p ≡ NoBox code
IsErrorOf (boxes.Fault code position error) p = (k : Fault) × IsFaultOf error k × (p ≡ Faulty code position k)
IsErrorOf (boxes.NoDefaults track_id) p = p ≡ NoTrex track_id
IsErrorOf (boxes.NoBase position track_id) p = p ≡ NoBase position track_id

-- a stored value or error is this answer
abbrev pub Records : {A : Type 0} → Result A BoxError → Result A Problem → Type 0
Records (Ok v) r = r ≡ Ok v
Records (Err e) r = (p : Problem) × (r ≡ Err p) × IsErrorOf e p

-- a call returns this answer, unless a read failed or memory was refused
abbrev pub Returns : {A : Type 0} → Result A MovieError → Result A Problem → Type 0
Returns (Ok v) r = r ≡ Ok v
Returns (Err (errors.Io _)) r = Unit {0}
Returns (Err (errors.Box e)) r = (p : Problem) × (r ≡ Err p) × IsErrorOf e p

-- a call returns the answer for the bytes of a source, if they are known
abbrev pub ReturnsFor : {A : Type 0} → Option (List ℕ) → Result A MovieError → (List ℕ → Result A Problem) → Type 0
ReturnsFor bytes result read = IfSome bytes (λ file. Returns result (read file))

-- a call returns borrowed boxes with this value
abbrev pub ReturnsBoxes : Result (Bor (List TreeBox)) MovieError → Result (List TreeBox) Problem → Type 0
ReturnsBoxes (Ok b) r = r ≡ Ok b.now
ReturnsBoxes (Err (errors.Box e)) r = (p : Problem) × (r ≡ Err p) × IsErrorOf e p
ReturnsBoxes (Err (errors.Io _)) r = ⊥
