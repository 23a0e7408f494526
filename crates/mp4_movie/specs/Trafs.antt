-- The values of the boxes in a track fragment (ISO/IEC 14496-12, 8.8).
use Rattle.std.specs.Prelude.{ℕ, List, [], ◌∷◌, Result, Ok, Err, IfSome}
use Rattle.std.specs.declared.option.Option.{Option}
use Rattle.mp4_flat.specs.Boxes.{reads_tfdt}
use Rattle.mp4_flat.specs.declared.tfdt.TfdtBox.{TfdtBox}
use Rattle.mp4_frame.specs.FourCC.{four_cc_of}
use Rattle.mp4_frame.specs.declared.codes.TheConstants as codes
use Rattle.mp4_movie.specs.Levels.{Found, first_in, all_in}
use Rattle.mp4_movie.specs.Problems.{Problem, Returns, ◌>>=◌}
use Rattle.mp4_movie.specs.Reads.{value_at, required, optional}
use Rattle.mp4_movie.specs.declared.error.MovieError.{MovieError}
use Rattle.mp4_movie.specs.declared.traf.Traf.{Traf}
use Rattle.mp4_tables.specs.Boxes.{reads_tfhd, reads_trun}
use Rattle.mp4_tables.specs.declared.tfhd.TfhdBox.{TfhdBox}
use Rattle.mp4_tables.specs.declared.trun.TrunBox.{TrunBox}
use Rattle.mp4_walk.specs.declared.tree_box.TreeBox.{TreeBox}

-- a `Vec` has more than its items, so a view of the result is compared
abbrev pub map_ok : {A C : Type 0} → (A → C) → Result A MovieError → Result C MovieError
map_ok view (Ok v) = Ok (view v)
map_ok view (Err e) = Err e

abbrev pub ReturnsForAs : {A C : Type 0} → (A → C) → Option (List ℕ) → Result A MovieError → (List ℕ → Result C Problem)
    → Type 0
ReturnsForAs view bytes result read = IfSome bytes (λ file. Returns (map_ok view result) (read file))

-- the header (8.8.7), the time (8.8.12) and the runs (8.8.8) of a traf
pub record Value : Type 0 where
  pub header : TfhdBox
  pub time : Option TfdtBox
  pub runs : List TrunBox

abbrev pub value_of : Traf → Value
value_of t = record { header = t.header; time = t.time; runs = t.runs.items }

-- the runs in these boxes, in order
abbrev pub runs_of : List ℕ → List Found → Result (List TrunBox) Problem
runs_of file [] = Ok []
runs_of file (f ∷ fs) = value_at reads_trun codes.TRUN file f.box >>= λ v. runs_of file fs >>= λ vs. Ok (v ∷ vs)

-- the value of a traf. `boxes` begins with the boxes inside it
abbrev pub traf_of : List ℕ → List TreeBox → Result Value Problem
traf_of file boxes =
    required reads_tfhd codes.TFHD file (first_in 2 (four_cc_of codes.TFHD) boxes) >>= λ header.
    optional reads_tfdt codes.TFDT file (first_in 2 (four_cc_of codes.TFDT) boxes) >>= λ time.
    runs_of file (all_in 2 (four_cc_of codes.TRUN) boxes) >>= λ runs.
    Ok (record { header = header; time = time; runs = runs })
