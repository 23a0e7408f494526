use Rattle.std.specs.Prelude.{codes}
use Rattle.mp4_info.specs.Members.{flag_value, member, number_value}
use Rattle.mp4_info.proofs.Sequences.{puts_4}
use Rattle.mp4_info.proofs.file_json.put_nclx.Goals as goal

pub returns : goal.returns
returns c =
    puts_4 c.args.sink.now.out c.put_number.new.sink.out c.put_number-2.new.sink.out c.put_number-3.new.sink.out
    c.put_flag.new.sink.out (member (codes "primaries") (number_value c.args.primaries))
    (member (codes "transfer") (number_value c.args.transfer)) (member (codes "matrix") (number_value c.args.matrix))
    (member (codes "full_range") (flag_value c.args.full_range)) c.in_ok-put_number.ensures
    c.in_ok-put_number-2.ensures c.in_ok-put_number-3.ensures c.in_ok-put_flag.ensures
