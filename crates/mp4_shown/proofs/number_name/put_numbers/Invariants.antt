-- The first numbers are handed over.
use Rattle.std.proofs.Common.{map, take}
use Rattle.std.specs.List.{flat_map, zip}
use Rattle.mp4_shown.specs.Hands.{Hands}
use Rattle.mp4_shown.specs.Numbers.{seen_number, shown_in}
use Rattle.mp4_shown.proofs.number_name.put_numbers.Given as goal

abbrev pub invariant-loop-i : goal.invariant-loop-i
invariant-loop-i g l =
    Hands g.K.FieldSink.trace g.K.FieldSink.after l.initial.sink
    (flat_map (shown_in l.as_items) (take l.i (zip (map seen_number l.names) l.numbers))) l.sink
