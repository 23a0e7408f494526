use Rattle.std.proofs.lemmas.Result.{on_ok_weaker}
use Rattle.mp4_remux.proofs.parts.check.check_run.Goals as goal

pub returns : goal.returns
returns c =
    on_ok_weaker c.check_span.result
    (λ span. record {
      first = c.in_ok-first.first;
      is_first = c.in_ok-first.ensures;
      last = c.in_ok-last.last;
      is_last = c.in_ok-last.ensures;
      span = span;
    }) c.check_span.ensures
