use Rattle.std.proofs.Common.{◌≡◌, option_map, rules, string_bytes}
use Rattle.mp4_inspect.proofs.TurnSteps.{line_shown}
use Rattle.mp4_inspect.proofs.field_lines.line_in.Goals as goal

pub line_at-requires : goal.line_at-requires
line_at-requires g c =
    let same : c.deref.result.now ≡ c.in_ok-fields.fields.items = search rules in
    rw same (rw c.in_ok-fields.ensures.ok at c.fields_of.ensures.utf8)

pub returns-clause-line : goal.returns-clause-line
returns-clause-line g c =
    let same : c.deref.result.now ≡ c.in_ok-fields.fields.items = search rules in
    let (rate, read) = rw c.in_ok-fields.ensures.ok at c.fields_of.ensures.fields in
    line_shown g.B.BoxFields.shown c.args.field.now c.args.found.now c.args.content.now rate
    c.in_ok-fields.fields.items (option_map string_bytes) c.line_at.result read (rw same at c.line_at.ensures.line)
