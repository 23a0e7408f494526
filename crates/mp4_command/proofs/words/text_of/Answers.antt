use Rattle.std.proofs.Common.{◌≡◌, IfOk, string_bytes, subst, sym, ◌∙◌}
use Rattle.mp4_command.proofs.WordsTaken.{word_of_text, word_marked}
use Rattle.mp4_command.proofs.words.text_of.Goals as goal

pub returns-in-Ok : goal.returns-in-Ok
returns-in-Ok c =
    let cases = c.in-Ok.ensures.cases in
    let is = cases.0 ∙ sym (word_of_text c.args.bytes.now cases.1) in
    subst (λ w. IfOk c.from_str.result (λ text. string_bytes text ≡ w)) is c.from_str.ensures.ok

pub returns-in-Err : goal.returns-in-Err
returns-in-Err c =
    let is = sym (word_marked c.args.bytes.now c.in-Err.ensures.cases.0) in
    subst (λ w. IfOk c.marked.result (λ text. string_bytes text ≡ w)) is c.marked.ensures
