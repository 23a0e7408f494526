use Rattle.std.specs.Prelude.{codes}
use Rattle.mp4_info.specs.Members.{flag_value, large_value, member, number_value, thousandths_value}
use Rattle.mp4_info.proofs.Sequences.{puts_4}
use Rattle.mp4_info.proofs.file_json.put_rate.Goals as goal

pub returns : goal.returns
returns c =
    let r = c.args.rate in
    puts_4 c.args.sink.now.out c.put_thousandths.new.sink.out c.put_large.new.sink.out c.put_number.new.sink.out
    c.put_flag.new.sink.out (member (codes "per_second") (thousandths_value r.thousandths))
    (member (codes "frames") (large_value r.frames)) (member (codes "units") (number_value r.units))
    (member (codes "constant") (flag_value r.is_constant)) c.in_ok-put_thousandths.ensures c.in_ok-put_large.ensures
    c.in_ok-put_number.ensures c.in_ok-put_flag.ensures
