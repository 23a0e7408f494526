-- The segment indexes of a file (ISO/IEC 14496-12, 8.16.3). The subsegments of an index follow one another, the first
-- at `first_offset` after the index, and each consists of whole boxes of the top level.
use Rattle.std.specs.Prelude.{◌≡◌, ℕ, ◌+◌, ◌-◌, ◌^◌, ◌<◌, nat_lt, ◌==◌, ◌&&◌, ◌||◌, Bool, min, List, [], ◌∷◌}
use Rattle.std.specs.Prelude.{◌++◌, is_some, Result, Ok, Err, None, Some, if◌then◌else◌}
use Rattle.std.specs.BTreeMap.{get}
use Rattle.std.specs.List.{list_any}
use Rattle.std.specs.Ordering.{nat_cmp}
use Rattle.std.specs.declared.option.Option.{Option}
use Rattle.mp4_check.specs.FaultValues.{Value, fault_at}
use Rattle.mp4_content.specs.Paths.{in_file, next}
use Rattle.mp4_check.specs.declared.fault.What.{What}
use Rattle.mp4_check.specs.declared.fault.What.TheVariants as what
use Rattle.mp4_check.specs.declared.indexes.Starts.{Starts}
use Rattle.mp4_extra_samples.specs.declared.sidx.Sidx.{Sidx}
use Rattle.mp4_extra_samples.specs.declared.sidx.SidxEntry.{SidxEntry}
use Rattle.mp4_frame.specs.FourCC.{four_cc_of}
use Rattle.mp4_frame.specs.Reading.{Fault, Reading}
use Rattle.mp4_frame.specs.declared.codes.TheConstants as codes
use Rattle.mp4_movie.specs.Levels.{Found, all_in, first_in}
use Rattle.mp4_movie.specs.Reads.{own_reading}
use Rattle.mp4_walk.specs.declared.tree_box.TreeBox.{TreeBox}

-- a box of the top level begins or the file ends at a position of 64 bits
abbrev pub is_start : List TreeBox → ℕ → ℕ → Bool
is_start boxes length position =
    nat_lt position (2 ^ 64)
    && ((position == length) || list_any (λ x. (x.depth == 0) && (x.position == position)) boxes)

abbrev pub wrong_at : ℕ → ℕ → What
wrong_at position before = what.IndexSizes before (min position (2 ^ 64 - 1))

-- the first position at which no box begins, after subsegments that end there or before
abbrev pub first_wrong : List TreeBox → ℕ → ℕ → ℕ → List SidxEntry → Option What
first_wrong boxes length position before [] =
    if is_start boxes length position then None else Some (wrong_at position before)
first_wrong boxes length position before (e ∷ es) =
    if is_start boxes length position then first_wrong boxes length (position + e.referenced_size) (next before) es else
    Some (wrong_at position before)

abbrev pub entries_what : List TreeBox → ℕ → ℕ → List SidxEntry → Option What
entries_what boxes length begin [] = None
entries_what boxes length begin (e ∷ es) = first_wrong boxes length begin 0 (e ∷ es)

abbrev pub index_found : List TreeBox → ℕ → TreeBox → Result Sidx Fault → Option What
index_found boxes length x (Err _) = None
index_found boxes length x (Ok v) = entries_what boxes length (x.position + x.length + v.first_offset) v.entries

-- the fault of an index, read in this way, in a file of this length
abbrev pub index_what : (List ℕ → ℕ → ℕ → Reading Sidx) → List ℕ → List TreeBox → ℕ → TreeBox → Option What
index_what reads file boxes length x = index_found boxes length x (own_reading reads file x).outcome

-- the faults of these indexes, of which the first is number n of the file
abbrev pub faults_of_indexes : (List ℕ → ℕ → ℕ → Reading Sidx) → List ℕ → List TreeBox → ℕ → ℕ → List Found
    → List Value
faults_of_indexes reads file boxes length n [] = []
faults_of_indexes reads file boxes length n (f ∷ fs) =
    fault_at f.box.position (in_file codes.SIDX n) (index_what reads file boxes length f.box)
    ++ faults_of_indexes reads file boxes length (next n) fs

-- the faults of all indexes of a file with fragments. An index of another file is in a file without fragments
abbrev pub index_faults : (List ℕ → ℕ → ℕ → Reading Sidx) → List ℕ → List TreeBox → ℕ → List Value
index_faults reads file boxes length =
    if is_some (first_in 0 (four_cc_of codes.MOOF) boxes) then
    faults_of_indexes reads file boxes length 0 (all_in 0 (four_cc_of codes.SIDX) boxes) else []

-- the stored positions are those at which boxes of the top level begin, and the end of the file
pub record AreStarts (boxes : List TreeBox) (length : ℕ) (starts : Starts) : Type 0 where
  pub are : (p : ℕ) → p < 2 ^ 64 → is_some (get nat_cmp starts.positions p) ≡ is_start boxes length p
