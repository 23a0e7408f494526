use Rattle.std.proofs.Common.{◌≡◌, false, length, rules}
use Rattle.std.specs.Prelude.{◌==◌}
use Rattle.mp4_show.specs.Lines.{state_of}
use Rattle.mp4_show.proofs.TextSteps.{list_left_open}
use Rattle.mp4_show.proofs.text_sink.TextSinkFieldSink.end_list.Goals as goal

pub returns : goal.returns
returns c =
    let s = state_of c.args.self.now in
    let some : (length s.lists == 0) ≡ false = search rules in
    list_left_open (length s.lists == 0) s (state_of c.tell_rest.new.self) (state_of c.leave_list.new.self)
    c.last_list-list.result some c.last_list-list.ensures c.in_ok-tell_rest.ensures c.leave_list.ensures
