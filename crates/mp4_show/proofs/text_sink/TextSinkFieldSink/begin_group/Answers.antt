use Rattle.std.proofs.Common.{◌≡◌, ◌++◌, ap, rules, string_bytes}
use Rattle.std.specs.Prelude.{codes}
use Rattle.mp4_show.specs.Lines.{after_space, state_of}
use Rattle.mp4_show.proofs.TextSteps.{piece_put}
use Rattle.mp4_show.proofs.text_sink.TextSinkFieldSink.begin_group.Goals as goal

pub returns : goal.returns
returns c =
    let put : string_bytes c.push.new.self ≡ string_bytes c.name_piece.new.self.piece ++ codes "{" = search rules in
    ap after_space
    (piece_put (state_of c.args.self.now) (state_of c.name_piece.new.self) (state_of c.put_piece.new.self)
    c.args.name.now (codes "{") (string_bytes c.name_piece.new.self.piece) (string_bytes c.push.new.self)
    c.name_piece.ensures.kept c.in_ok-name_piece.ensures.piece put c.in_ok-put_piece.ensures)
