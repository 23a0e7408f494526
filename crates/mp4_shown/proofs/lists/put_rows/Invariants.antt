-- The first entries are handed over.
use Rattle.std.proofs.Common.{map, take}
use Rattle.std.specs.List.{flat_map}
use Rattle.mp4_declared.specs.Layout.{numbers_of}
use Rattle.mp4_shown.specs.Hands.{Hands}
use Rattle.mp4_shown.specs.Lists.{row_as}
use Rattle.mp4_shown.specs.Numbers.{seen_number}
use Rattle.mp4_shown.proofs.lists.put_rows.Given as goal

abbrev pub invariant-loop-entry : goal.invariant-loop-entry
invariant-loop-entry g l =
    let layout = g.X.EntryLayout.layout in
    Hands g.K.FieldSink.trace g.K.FieldSink.after l.initial.sink
    (flat_map (λ x. row_as l.list_as (map seen_number l.names) (numbers_of layout.fields (layout.content x)))
    (take l.entry-index l.entries)) l.sink
