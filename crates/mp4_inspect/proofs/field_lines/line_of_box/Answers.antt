use Rattle.std.proofs.Common.{option_map, string_bytes}
use Rattle.mp4_inspect.proofs.TurnSteps.{has_line}
use Rattle.mp4_inspect.proofs.field_lines.line_of_box.Goals as goal

pub returns-clause-line : goal.returns-clause-line
returns-clause-line g c =
    has_line g.B.Shown.known g.B.Shown.named_reading g.B.BoxFields.shown c.args.field.now c.args.walk.now.bytes
    c.args.found.now c.in_ok-content.content (option_map string_bytes) c.line_in.result c.in_ok-content.ensures.shows
    c.line_in.ensures.line
