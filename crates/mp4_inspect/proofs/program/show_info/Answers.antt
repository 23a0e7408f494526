use Rattle.std.proofs.Common.{ap}
use Rattle.std.specs.Prelude.{not}
use Rattle.mp4_check.proofs.Outcomes.{if_some}
use Rattle.mp4_inspect.proofs.program.show_info.Goals as goal

pub returns : goal.returns
returns g c = record {
  info =
      if_some (g.S.Source.all c.args.source) c.in_ok-facts.ensures.value
      (λ file is. record {
        facts = c.in_ok-facts.facts;
        text = c.as_bytes.result.now;
        of_file = is;
        writes = c.in_ok-write_all.ensures.bytes;
        is_unknown = ap not c.is_known.ensures;
      });
}
