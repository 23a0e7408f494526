use Rattle.std.proofs.Common.{inl, inr, refl}
use Rattle.mp4_c.specs.FragmentSamples.{CopiesFragmentsOf}
use Rattle.mp4_c.proofs.Answered.{of_found}
use Rattle.mp4_c.proofs.fragment_samples.mp4_fragment_samples.Goals as goal

pub returns-in-Ok : goal.returns-in-Ok
returns-in-Ok c =
    let call = c.copy_track_fragments in
    of_found _ c.args.bytes.now _ _
    (λ file number. CopiesFragmentsOf file c.args.track_id number call.result c.args.rows.now call.new.rows
    c.args.count.now call.new.count)
    c.in-Ok.ensures.found.0 c.in-Ok.ensures.found.1 call.ensures

pub returns-in-Err : goal.returns-in-Err
returns-in-Err c =
    elim c.in-Err.ensures.error [
      | inl memory ↦ inl (memory, (refl, refl))
      | inr none ↦ inr (rw (← none.0) (none.1, (refl, refl)))
    ]
