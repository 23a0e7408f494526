-- The first fields are handed over.
use Rattle.std.proofs.Common.{map, take}
use Rattle.std.specs.List.{flat_map, zip}
use Rattle.mp4_shown.specs.Hands.{Hands}
use Rattle.mp4_shown.specs.Numbers.{seen_number}
use Rattle.mp4_show.specs.Row.{seen_part, shown_pair}
use Rattle.mp4_show.proofs.row.put_row.Given as goal

abbrev pub invariant-loop-i : goal.invariant-loop-i
invariant-loop-i g l =
    Hands g.K.FieldSink.trace g.K.FieldSink.after l.initial.sink
    (flat_map shown_pair (take l.i (zip (map seen_number l.names) (map seen_part l.parts)))) l.sink
