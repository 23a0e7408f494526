use Rattle.std.proofs.Common.{refl}
use Rattle.mp4_check.proofs.Outcomes.{if_some}
use Rattle.mp4_inspect.proofs.program.check_file.Goals as goal

pub returns : goal.returns
returns g c = record {
  check =
      if_some (g.S.Source.all c.args.source) (rw c.form_of-form.ensures at c.in_ok-told.ensures.faults)
      (λ file written. record {
        told = c.in_ok-told.told;
        writes = written;
        is_faulty = c.is_bad.ensures;
        any_after = refl;
      });
}
