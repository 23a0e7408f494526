use Rattle.std.proofs.Common.{◌++◌, codes, rules}
use Rattle.mp4_show.proofs.Handed.{hands_more}
use Rattle.mp4_show.specs.EntryRows.{style_row, tx3g_row}
use Rattle.mp4_show.specs.Row.{shown_row}
use Rattle.mp4_show.specs.contracts.fields.entries.RgbaColorBoxFields.TheImpl.{ghosts}
use Rattle.mp4_show.specs.declared.fields.entries.TheConstants.{STYLE, TX3G}
use Rattle.mp4_shown.specs.Hands.{Hands}
use Rattle.mp4_shown.specs.Shapes.{shown_group}
use Rattle.mp4_show.proofs.fields.entries.Tx3gBoxBoxFields.show.Goals as goal

pub returns : goal.returns
returns g c =
    let b = c.args.self.now in
    let first = shown_row TX3G.now (tx3g_row b) in
    let color = shown_group (codes "background-color-rgba") (ghosts.shown c.args.view b.bg_color_rgba) in
    let style = shown_row STYLE.now (style_row b) in
    let row : Hands g.K.FieldSink.trace g.K.FieldSink.after c.args.sink.now first c.put_row.new.sink = search rules in
    hands_more g.K.FieldSink.trace g.K.FieldSink.after c.put_style.result first (color ++ style) c.args.sink.now
    c.put_row.new.sink c.put_style.new.sink row
    (hands_more g.K.FieldSink.trace g.K.FieldSink.after c.put_style.result color style c.put_row.new.sink
    c.put_group.new.sink c.put_style.new.sink c.in_ok-put_group.ensures c.put_style.ensures)
