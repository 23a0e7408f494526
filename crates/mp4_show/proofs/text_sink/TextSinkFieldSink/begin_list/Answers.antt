use Rattle.std.proofs.Common.{List, ap, decimal, string_bytes, ◌∙◌}
use Rattle.mp4_show.specs.Lines.{TextState, state_of}
use Rattle.mp4_show.specs.TextTrace.{list_begun}
use Rattle.mp4_show.specs.declared.text_sink.OpenList.{OpenList}
use Rattle.mp4_show.proofs.TextSteps.{piece_put}
use Rattle.mp4_show.proofs.text_sink.TextSinkFieldSink.begin_list.Goals as goal

pub returns : goal.returns
returns c =
    ap (λ (lists : List OpenList). record (state_of c.put_piece.new.self) { lists = lists })
    c.in_ok-push.ensures.items
    ∙ ap (λ (s : TextState). list_begun s c.args.total)
    (piece_put (state_of c.args.self.now) (state_of c.name_piece.new.self) (state_of c.put_piece.new.self)
    c.args.name.now (decimal c.args.total) (string_bytes c.name_piece.new.self.piece)
    (string_bytes c.push_number.new.out) c.name_piece.ensures.kept c.in_ok-name_piece.ensures.piece
    c.in_ok-push_number.ensures.text c.in_ok-put_piece.ensures)
