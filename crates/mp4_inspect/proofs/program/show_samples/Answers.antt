use Rattle.std.proofs.Common.{◌≡◌, length, rules}
use Rattle.std.specs.Prelude.{◌==◌, not}
use Rattle.mp4_check.proofs.Outcomes.{if_some}
use Rattle.mp4_inspect.proofs.program.show_samples.Goals as goal

pub returns : goal.returns
returns g c = record {
  samples =
      let any : not c.is_empty.result ≡ not (length c.write_samples.new.faults.items == 0) = search rules in
      if_some (g.S.Source.all c.args.source) c.in_ok-write_samples.ensures.samples
      (λ file written. record { writes = written; is_faulty = any });
}
