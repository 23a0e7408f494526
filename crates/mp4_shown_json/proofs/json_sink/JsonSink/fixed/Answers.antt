use Rattle.std.proofs.Common.{arith, rules}
use Rattle.mp4_shown_json.proofs.Fraction.{fixed_is_number}
use Rattle.mp4_shown_json.proofs.json_sink.JsonSink.fixed.Goals as goal

pub number-requires : goal.number-requires
number-requires c =
    let number = fixed_is_number c.args.negative c.args.size c.args.bits (search rules) in
    grind (arith, number, c.in_ok-push_fixed.ensures.text)
