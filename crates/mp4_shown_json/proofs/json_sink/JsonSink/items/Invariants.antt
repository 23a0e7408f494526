-- The first codes are written.
use Rattle.std.proofs.Common.{map, take}
use Rattle.mp4_shown.specs.Event.{bytes_of_code}
use Rattle.mp4_shown_json.specs.Tokens.{Puts, code_token}
use Rattle.mp4_shown_json.proofs.json_sink.JsonSink.items.Given as goal

abbrev pub invariant-loop-code : goal.invariant-loop-code
invariant-loop-code l =
    Puts l.initial.self.out l.self.out (map code_token (map bytes_of_code (take l.code-index l.codes)))
