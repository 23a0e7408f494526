-- The boxes that are left give the same end.
use Rattle.std.proofs.Common.{◌≡◌, ◌≤◌, ◌-◌, ◌^◌, length, min}
use Rattle.mp4_frame.specs.FourCC.{four_cc_of}
use Rattle.mp4_frame.specs.declared.codes.TheConstants as codes
use Rattle.mp4_movie.specs.Levels.{all_in}
use Rattle.mp4_inspect_samples.specs.Segments.{last_end}
use Rattle.mp4_inspect_samples.proofs.segments.last_end.Given as goal

abbrev pub invariant-boxes : goal.invariant-boxes
invariant-boxes l = record {
  small : l.last ≤ 2 ^ 64 - 1;
  so_far : min (last_end l.end (all_in 0 (four_cc_of codes.MDAT) l.boxes)) (2 ^ 64 - 1)
      ≡ min (last_end l.last (all_in 0 (four_cc_of codes.MDAT) l.rest)) (2 ^ 64 - 1);
}

abbrev pub decreases-boxes : goal.decreases-boxes
decreases-boxes l = length l.rest
