use Rattle.std.proofs.Common.{codes}
use Rattle.mp4_show.proofs.Handed.{hands_more}
use Rattle.mp4_show.specs.EntryRows.{avcc_row}
use Rattle.mp4_show.specs.Lists.{listed, shown_table}
use Rattle.mp4_show.specs.contracts.fields.entries.NalUnitBoxEntryUnit.TheImpl.{ghosts}
use Rattle.mp4_show.specs.declared.fields.entries.TheConstants.{AVCC}
use Rattle.mp4_show.proofs.fields.entries.AvcCBoxBoxFields.show.Goals as goal

pub returns : goal.returns
returns g c =
    let b = c.args.self.now in
    let rows = c.args.view.rows in
    hands_more g.K.FieldSink.trace g.K.FieldSink.after c.put_list.result
    (shown_table AVCC.now (avcc_row b) (codes "sequenceParameterSetNALUnit") (ghosts.shown c.args.view tt) rows
    b.sequence_parameter_sets)
    (listed (codes "pictureParameterSetNALUnit") (ghosts.shown c.args.view tt) rows b.picture_parameter_sets)
    c.args.sink.now c.put_table.new.sink c.put_list.new.sink c.in_ok-put_table.ensures c.put_list.ensures
