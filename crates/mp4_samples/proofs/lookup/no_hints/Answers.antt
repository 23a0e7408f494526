use Rattle.std.proofs.Common.{arith}
use Rattle.mp4_samples.proofs.Pushed.{order_none}
use Rattle.mp4_samples.proofs.lookup.no_hints.Goals as goal

pub returns : goal.returns
returns c = record {
  chunk_marks = record {
    within = omega arith;
    order = order_none;
    is = λ i lt. absurd (omega arith);
    begun = λ i lt. absurd (omega arith);
  };
  run_marks = record { within = omega arith; order = order_none; is = λ i lt. absurd (omega arith) };
  below = λ i lt. absurd (omega arith);
  time_marks = record {
    each = omega arith;
    order = order_none;
    is = λ i lt. absurd (omega arith);
    fits = λ i lt. absurd (omega arith);
  };
  shift_marks = record { within = omega arith; order = order_none; is = λ i lt. absurd (omega arith) };
  byte_marks = record { each = λ some. absurd (omega arith); is = λ i lt. absurd (omega arith) };
}
