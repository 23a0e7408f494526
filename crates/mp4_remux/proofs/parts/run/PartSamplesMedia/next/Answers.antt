use Rattle.std.proofs.Common.{◌≡◌, ℕ, ◌+◌, ◌<◌, ap, ◌∙◌, refl, arith}
use Rattle.mp4_remux.specs.Parts.{run_teller}
use Rattle.mp4_remux.specs.Tracks.{number_of_track}
use Rattle.mp4_remux.proofs.RunSteps.{early_in_run, in_run, past_run, untold_in_run}
use Rattle.mp4_remux.proofs.parts.run.PartSamplesMedia.next.Goals as goal

pub returns-in-Some-clause-gives : goal.returns-in-Some-clause-gives
returns-in-Some-clause-gives c = λ going.
    let s = c.args.self.now in
    let told = rw c.in-Ok-Some.field-0-is at (c.in-Ok-Some.ensures.gives going.going) in
    let early = c.in-Some.ensures.some in (
      omega arith,
      in_run (run_teller s) (number_of_track s.samples) s.passed c.in-Ok-Some.sample c.in-Some.moved going.number told.0
          told.1 early.0 early.1,
      refl,
    )

pub returns-in-Some-clause-going : goal.returns-in-Some-clause-going
returns-in-Some-clause-going c = λ going.
    let told = rw c.in-Ok-Some.field-0-is at (c.in-Ok-Some.ensures.gives going.going) in
    let goes = rw c.in-Ok-Some.field-0-is at c.in-Ok-Some.ensures.going in
    record { going = goes going.going; number = omega (arith, told.2, going.number) }

pub returns-in-None-clause-gives : goal.returns-in-None-clause-gives
returns-in-None-clause-gives c = λ going.
    let s = c.args.self.now in
    let told = rw c.in-Ok-Some.field-0-is at (c.in-Ok-Some.ensures.gives going.going) in (
      omega arith,
      λ x. early_in_run (run_teller s) (number_of_track s.samples) s.passed c.in-Ok-Some.sample x going.number told.1
          c.in-None.ensures.none,
    )

pub returns-in-Ok-None-clause-gives : goal.returns-in-Ok-None-clause-gives
returns-in-Ok-None-clause-gives c = λ going.
    let s = c.args.self.now in
    let told = rw c.in-Ok-None.field-0-is at (c.in-Ok-None.ensures.gives going.going) in (
      omega arith,
      λ x. past_run (run_teller s) (number_of_track s.samples) s.passed x going.number told,
    )

pub returns-in-Err-clause-gives : goal.returns-in-Err-clause-gives
returns-in-Err-clause-gives c = λ going.
    let s = c.args.self.now in
    let told = c.in-Err.ensures.gives going.going in (
      omega arith,
      λ x. untold_in_run (run_teller s) (number_of_track s.samples) s.passed x going.number told.1,
    )
