use Rattle.std.proofs.Common.{◌≡◌, Err, option_map, rules, string_bytes}
use Rattle.mp4_inspect.proofs.TurnSteps.{is_some_of, known_line_written, no_line_written}
use Rattle.mp4_inspect.proofs.field_lines.write_line_of.Goals as goal

pub returns-in_err-line-clause-line : goal.returns-in_err-line-clause-line
returns-in_err-line-clause-line g c =
    let failed : c.from_residual.result ≡ Err c.in_err-line.field-0.0 = search rules in
    rw failed
    (no_line_written g.B.Shown.known g.B.Shown.named_reading g.B.BoxFields.shown c.args.field.now
    c.args.walk.now.bytes c.args.found.now (g.W.Write.contents c.args.output.now.inner) c.in_err-line.field-0.0
    c.in_err-line.ensures.not_write)

pub returns-clause-line : goal.returns-clause-line
returns-clause-line g c =
    known_line_written g.B.Shown.known g.B.Shown.named_reading g.B.BoxFields.shown c.args.field.now
    c.args.walk.now.bytes c.args.found.now (option_map string_bytes c.in_ok-line.line)
    (g.W.Write.contents c.args.output.now.inner) (g.W.Write.contents c.write_line.new.output.inner)
    c.write_line.result c.in_ok-line.ensures.line c.write_line.ensures.bytes
    (is_some_of string_bytes c.in_ok-line.line c.write_line.result c.write_line.ensures.any)
