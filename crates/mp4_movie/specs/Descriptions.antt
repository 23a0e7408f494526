-- The sample descriptions of a track (ISO/IEC 14496-12, 8.5.2), as bytes.
use Rattle.std.specs.Prelude.{ℕ, List, Result, Ok, Err, None, Some, if◌then◌else◌}
use Rattle.std.specs.declared.option.Option.{Option}
use Rattle.mp4_frame.specs.FourCC.{four_cc_of}
use Rattle.mp4_frame.specs.Reading.{End}
use Rattle.mp4_frame.specs.declared.codes.TheConstants as codes
use Rattle.mp4_movie.specs.Levels.{Found}
use Rattle.mp4_movie.specs.Movies.{sample_table}
use Rattle.mp4_movie.specs.Problems.{Problem, NoBox, Faulty, ◌>>=◌}
use Rattle.mp4_movie.specs.Tables.{table}
use Rattle.mp4_walk.specs.Source.{piece}
use Rattle.mp4_walk.specs.Tops.{is_whole}
use Rattle.mp4_walk.specs.declared.tree_box.TreeBox.{TreeBox}

-- the bytes of a box of a code with its header. A box that is not whole has a fault
abbrev pub bytes_at : ℕ → List ℕ → TreeBox → Result (List ℕ) Problem
bytes_at code file x =
    if is_whole x.state then Ok (piece file x.position x.length) else Err (Faulty (four_cc_of code) x.position End)

-- the bytes of a mandatory box
abbrev pub required_bytes : ℕ → List ℕ → Option Found → Result (List ℕ) Problem
required_bytes code file None = Err (NoBox (four_cc_of code))
required_bytes code file (Some f) = bytes_at code file f.box

-- the bytes of the `stsd` in an `stbl`. `stbl` begins with the boxes inside it
abbrev pub descriptions_in : List ℕ → List TreeBox → Result (List ℕ) Problem
descriptions_in file stbl = required_bytes codes.STSD file (table codes.STSD stbl)

-- the bytes of the `stsd` of a track
abbrev pub descriptions_of : List ℕ → List TreeBox → Result (List ℕ) Problem
descriptions_of file trak = sample_table trak >>= λ stbl. descriptions_in file stbl
