use Rattle.std.proofs.Common.{rules, string_bytes, sym, ◌∙◌, ◌≡◌, false}
use Rattle.mp4_show.specs.Lines.{state_of}
use Rattle.mp4_show.specs.TextTrace.{named}
use Rattle.mp4_show.specs.Values.{is_usual, value_shown}
use Rattle.mp4_shown.specs.Event.{shown_of}
use Rattle.mp4_show.proofs.TextSteps.{field_put, piece_put}
use Rattle.mp4_show.proofs.text_sink.TextSinkFieldSink.field.Goals as goal

pub returns : goal.returns
returns c =
    let no : c.is_usual.result ≡ false = search rules in
    let value = shown_of c.args.value in
    field_put (is_usual value) (state_of c.args.self.now) (state_of c.put_piece.new.self)
    (named c.args.name.now (value_shown value)) (sym c.is_usual.ensures ∙ no)
    (piece_put (state_of c.args.self.now) (state_of c.name_piece.new.self) (state_of c.put_piece.new.self)
    c.args.name.now (value_shown value) (string_bytes c.name_piece.new.self.piece)
    (string_bytes c.push_value.new.out) c.name_piece.ensures.kept c.in_ok-name_piece.ensures.piece
    c.in_ok-push_value.ensures.text c.in_ok-put_piece.ensures)
