use Rattle.std.proofs.Common.{OnOk, subst, sym}
use Rattle.std.specs.declared.option.Option.{Option}
use Rattle.mp4_info.specs.TrackJson.{entry_members}
use Rattle.mp4_info.specs.declared.entry.Entry.{Entry}
use Rattle.mp4_shown_json.specs.Tokens.{Puts}
use Rattle.mp4_info.proofs.file_json.put_entry.Goals as goal

pub returns-in-Some : goal.returns-in-Some
returns-in-Some c =
    let start = c.args.sink.now.out in
    let end = c.put_known_entry.new.sink.out in
    subst (λ (o : Option Entry). OnOk c.put_known_entry.result (Puts start end (entry_members o)))
    (sym c.in-Some.is) c.put_known_entry.ensures
