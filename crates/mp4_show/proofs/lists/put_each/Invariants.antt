-- The first entries are handed over.
use Rattle.std.proofs.Common.{take}
use Rattle.std.specs.List.{flat_map}
use Rattle.mp4_shown.specs.Hands.{Hands}
use Rattle.mp4_show.proofs.lists.put_each.Given as goal

abbrev pub invariant-loop-entry : goal.invariant-loop-entry
invariant-loop-entry g l =
    Hands g.K.FieldSink.trace g.K.FieldSink.after l.initial.sink
    (flat_map (g.X.BoxEntry.shown l.view l.context) (take l.entry-index l.entries)) l.sink
