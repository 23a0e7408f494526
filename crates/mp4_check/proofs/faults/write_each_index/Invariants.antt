-- The faults of the indexes before the rest are written.
use Rattle.std.proofs.Common.{◌≡◌, length}
use Rattle.std.specs.Prelude.{IfSome}
use Rattle.mp4_check.specs.Indexes.{faults_of_indexes}
use Rattle.mp4_check.specs.contracts.indexes.OwnReadingIndexReading.TheImpl as own
use Rattle.mp4_check.proofs.ShownFaults.{WritesFirst}
use Rattle.mp4_check.proofs.faults.write_each_index.Given as goal
use Rattle.mp4_frame.specs.FourCC.{four_cc_of}
use Rattle.mp4_frame.specs.declared.codes.TheConstants as names
use Rattle.mp4_movie.specs.Levels.{all_in}

abbrev pub invariant-indexes : goal.invariant-indexes
invariant-indexes g l = record {
  kept : l.walk ≡ l.fn.walk;
  so_far : IfSome l.fn.walk.bytes (λ file.
      WritesFirst (g.F.FaultForm.writes l.form) l.fn.told
      (faults_of_indexes (own.ghosts).reads file l.boxes (length file) 0
      (all_in 0 (four_cc_of names.SIDX) l.boxes))
      (faults_of_indexes (own.ghosts).reads file l.boxes (length file) l.number
      (all_in 0 (four_cc_of names.SIDX) l.rest))
      l.fn.output l.output l.written);
}

abbrev pub decreases-indexes : goal.decreases-indexes
decreases-indexes g l = length l.rest
