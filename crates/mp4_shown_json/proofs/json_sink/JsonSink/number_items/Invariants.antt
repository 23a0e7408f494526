-- The first numbers are written.
use Rattle.std.proofs.Common.{map, take}
use Rattle.mp4_shown_json.specs.Tokens.{Puts, signed_token}
use Rattle.mp4_shown_json.proofs.json_sink.JsonSink.number_items.Given as goal

abbrev pub invariant-loop-number : goal.invariant-loop-number
invariant-loop-number l = Puts l.initial.self.out l.self.out (map signed_token (take l.number-index l.numbers))
