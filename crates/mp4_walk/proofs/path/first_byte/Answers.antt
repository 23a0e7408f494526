use Rattle.std.proofs.Common.{◌≤◌, rules}
use Rattle.mp4_walk.proofs.PathTexts.{if_none, no_char, other_char}
use Rattle.mp4_walk.proofs.path.first_byte.Goals as goal

pub returns-in_err-next-clause-none : goal.returns-in_err-next-clause-none
returns-in_err-next-clause-none c =
    if_none _ _ (no_char c.args.text.now _ c.chars-rest.ensures.rest c.in_err-next.ensures.steps.0.0 c.utf8.text)

pub returns-in_err-byte-clause-none : goal.returns-in_err-byte-clause-none
returns-in_err-byte-clause-none c =
    let large : 256 ≤ c.in_ok-next.field-0 = search rules in
    if_none _ _
    (other_char c.args.text.now _ _ c.in_ok-next.field-0 c.chars-rest.ensures.rest c.in_ok-next.ensures.steps.0 large
    c.utf8.text)
