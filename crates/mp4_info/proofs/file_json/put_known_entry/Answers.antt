use Rattle.std.specs.Prelude.{codes, string_bytes}
use Rattle.mp4_info.specs.Members.{code_value, member, text_value}
use Rattle.mp4_info.specs.TrackJson.{protection_value}
use Rattle.mp4_info.proofs.Sequences.{puts_3}
use Rattle.mp4_info.proofs.file_json.put_known_entry.Goals as goal

pub returns : goal.returns
returns c =
    let e = c.args.entry.now in
    puts_3 c.args.sink.now.out c.put_code.new.sink.out c.put_codec.new.sink.out c.put_protection.new.sink.out
    (member (codes "entry") (code_value e.code)) (member (codes "codec") (text_value (string_bytes e.codec)))
    (member (codes "encryption") (protection_value e)) c.in_ok-put_code.ensures c.in_ok-put_codec.ensures
    c.in_ok-put_protection.ensures
