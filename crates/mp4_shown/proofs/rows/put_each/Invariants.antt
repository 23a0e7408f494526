-- The first rows are handed over.
use Rattle.std.proofs.Common.{take}
use Rattle.std.specs.List.{flat_map}
use Rattle.mp4_shown.specs.Hands.{Hands}
use Rattle.mp4_shown.specs.Lists.{bytes_item}
use Rattle.mp4_shown.proofs.rows.put_each.Given as goal

abbrev pub invariant-loop-row : goal.invariant-loop-row
invariant-loop-row g l =
    Hands g.K.FieldSink.trace g.K.FieldSink.after l.initial.sink (flat_map bytes_item (take l.row-index l.rows)) l.sink
