use Rattle.std.proofs.Common.{arith, rules, append_assoc}
use Rattle.std.proofs.lemmas.Fmt.{length-decimal-le}
use Rattle.std.proofs.lemmas.List.{drop_all}
use Rattle.mp4_boxes.proofs.line.put_line.Goals as goal

pub write_digits-at-requires : goal.write_digits-at-requires
write_digits-at-requires c = search (rules, length-decimal-le 20)

pub put_before-at-requires-3-clause-room : goal.put_before-at-requires-3-clause-room
put_before-at-requires-3-clause-room c = search (rules, length-decimal-le 20)

pub write_digits-requires : goal.write_digits-requires
write_digits-requires c = search (rules, length-decimal-le 20)

pub returns-clause-text : goal.returns-clause-text
returns-clause-text c =
    rw (
      c.write_digits.ensures.written,
      c.put_before-at-3.ensures.text,
      c.write_digits-at.ensures.written,
      c.put_before-at-2.ensures.text,
      c.put_code-at.ensures.text,
      c.put_before-at.ensures.text,
      drop_all 53 c.args.line.now (omega arith),
      c.from.ensures,
    ) (simp append_assoc)
