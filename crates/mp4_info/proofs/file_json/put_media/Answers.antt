use Rattle.std.proofs.Common.{OnOk, subst, sym}
use Rattle.std.specs.declared.option.Option.{Option}
use Rattle.mp4_info.specs.TrackJson.{media_members}
use Rattle.mp4_info.specs.declared.entry.Entry.{Entry}
use Rattle.mp4_shown_json.specs.Tokens.{Puts}
use Rattle.mp4_info.proofs.file_json.put_media.Goals as goal

pub returns-in-Some : goal.returns-in-Some
returns-in-Some c =
    let start = c.args.sink.now.out in
    let end = c.put_entry_media.new.sink.out in
    subst (λ (o : Option Entry). OnOk c.put_entry_media.result (Puts start end (media_members c.args.facts.now o)))
    (sym c.in-Some.is) c.put_entry_media.ensures
