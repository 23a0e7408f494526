-- The value of a box of a file.
use Rattle.std.specs.Prelude.{◌≡◌, ℕ, Bool, true, false, List, Result, Ok, Err, None, Some, if◌then◌else◌}
use Rattle.std.specs.declared.option.Option.{Option}
use Rattle.mp4_frame.specs.FourCC.{four_cc_of}
use Rattle.mp4_frame.specs.Reading.{Fault, End, Reading, faults}
use Rattle.mp4_frame.specs.WholeBox.{whole_box}
use Rattle.mp4_frame.specs.declared.error.Error.{Error}
use Rattle.mp4_frame.specs.declared.error.Error.TheVariants as refusals
use Rattle.mp4_frame.specs.declared.four_cc.FourCC.{FourCC}
use Rattle.mp4_movie.specs.Levels.{Found}
use Rattle.mp4_movie.specs.Problems.{Problem, NoBox, Faulty, IsFaultOf}
use Rattle.mp4_walk.specs.Source.{piece}
use Rattle.mp4_walk.specs.Tops.{is_whole}
use Rattle.mp4_walk.specs.declared.tree_box.TreeBox.{TreeBox}

-- the reading of a box of a file by its own bytes, and none after them. A box that is not whole has a fault
abbrev pub own_reading : {A : Type 0} → (List ℕ → ℕ → ℕ → Reading A) → List ℕ → TreeBox → Reading A
own_reading reads file x =
    if is_whole x.state then whole_box reads (piece file x.position x.length) else faults End

abbrev pub is_memory : Error → Bool
is_memory refusals.OutOfMemory = true
is_memory _ = false

-- a value or an error is that of a reading
abbrev pub IsReadAs : {A : Type 0} → Result A Error → Result A Fault → Type 0
IsReadAs (Ok v) r = r ≡ Ok v
IsReadAs (Err e) r = (k : Fault) × IsFaultOf e k × (r ≡ Err k)

-- the value of a box, or its fault as a problem
abbrev pub or_fault : {A : Type 0} → FourCC → ℕ → Result A Fault → Result A Problem
or_fault code position (Ok v) = Ok v
or_fault code position (Err k) = Err (Faulty code position k)

-- the value of a box of a code
abbrev pub value_at : {A : Type 0} → (List ℕ → ℕ → ℕ → Reading A) → ℕ → List ℕ → TreeBox → Result A Problem
value_at reads code file x = or_fault (four_cc_of code) x.position (own_reading reads file x).outcome

-- the value of a mandatory box
abbrev pub required : {A : Type 0} → (List ℕ → ℕ → ℕ → Reading A) → ℕ → List ℕ → Option Found → Result A Problem
required reads code file None = Err (NoBox (four_cc_of code))
required reads code file (Some f) = value_at reads code file f.box

abbrev pub some_of : {A : Type 0} → Result A Problem → Result (Option A) Problem
some_of (Ok v) = Ok (Some v)
some_of (Err p) = Err p

-- the value of an optional box
abbrev pub optional : {A : Type 0} → (List ℕ → ℕ → ℕ → Reading A) → ℕ → List ℕ → Option Found
    → Result (Option A) Problem
optional reads code file None = Ok None
optional reads code file (Some f) = some_of (value_at reads code file f.box)
