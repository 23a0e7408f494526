-- The first entries are handed over.
use Rattle.mp4_shown.specs.Hands.{Hands}
use Rattle.mp4_show.specs.Run.{entries_to}
use Rattle.mp4_show.proofs.placed.put_placed.Given as goal

abbrev pub invariant-loop-index : goal.invariant-loop-index
invariant-loop-index g l =
    Hands g.K.FieldSink.trace g.K.FieldSink.after l.initial.sink
    (entries_to (g.B.PlacedEntries.shown_at l.view l.b) l.index) l.sink
