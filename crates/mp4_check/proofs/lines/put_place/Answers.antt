use Rattle.std.specs.Prelude.{codes}
use Rattle.mp4_check.specs.Lines.{position_member, text_member}
use Rattle.mp4_shown_json.proofs.Puts.{puts_more, puts_then}
use Rattle.std.proofs.Common.{◌++◌}
use Rattle.mp4_check.proofs.lines.put_place.Goals as goal

pub returns : goal.returns
returns c =
    let start = c.args.sink.now.out in
    let named = c.put_text.new.sink.out in
    let placed = c.put_position.new.sink.out in
    let file = text_member (codes "file") c.args.name.now in
    let position = position_member c.args.fault.now.position in
    puts_then c.put_text-2.result start placed c.put_text-2.new.sink.out (file ++ position)
    (text_member (codes "path") c.args.path.now)
    (puts_more start named placed file position c.in_ok-put_text.ensures c.in_ok-put_position.ensures)
    c.put_text-2.ensures
