use Rattle.std.proofs.Common.{◌∙◌, Ok, Result, ap, sym}
use Rattle.std.specs.declared.option.Option.{Option}
use Rattle.mp4_flat.specs.Boxes.{reads_mvhd}
use Rattle.mp4_flat.specs.declared.mvhd.MvhdBox.{MvhdBox}
use Rattle.mp4_frame.specs.declared.codes.TheConstants as codes
use Rattle.mp4_inspect_samples.proofs.Outcomes.{if_is, some_at}
use Rattle.mp4_inspect_samples.proofs.edits.movie_timescale.Goals as goal
use Rattle.mp4_movie.proofs.Chains.{fault_recorded}
use Rattle.mp4_movie.specs.Levels.{Found}
use Rattle.mp4_movie.specs.Problems.{Problem, ◌>>=◌}
use Rattle.mp4_movie.specs.Reads.{required}

pub returns-in-Ok-Err-clause-value : goal.returns-in-Ok-Err-clause-value
returns-in-Ok-Err-clause-value g c =
    if_is c.args.walk.now.bytes (λ file known.
    let read = rw c.in-Ok-Err.field-0-is at (some_at c.args.walk.now.bytes file _ known c.in-Ok-Err.ensures.value) in
    let h = fault_recorded reads_mvhd file codes.MVHD c.in-Some.place.found c.in-Ok-Err.error c.from-in-Ok-Err.result
    c.from-in-Ok-Err.ensures read in (
      h.0,
      ap (λ (o : Option Found). required reads_mvhd codes.MVHD file o >>= λ v. Ok v.timescale)
          (sym c.in-Some.ensures.first)
          ∙ ap (λ (r : Result MvhdBox Problem). r >>= λ v. Ok v.timescale) h.1,
      h.2,
    ))
