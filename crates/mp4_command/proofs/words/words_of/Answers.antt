use Rattle.std.proofs.Common.{◌≡◌, IfSome, option_map, slice_get, string_bytes, vec_items, subst, ap, ◌∙◌}
use Rattle.mp4_command.specs.Words.{word_text}
use Rattle.mp4_command.proofs.WordsTaken.{words_step}
use Rattle.mp4_command.proofs.words.words_of.Goals as goal

pub loop-number-preserved : goal.loop-number-preserved
loop-number-preserved g c =
    let all = g.C.CommandLine.all c.args.line.now in
    let k = c.loop-number.number in
    let word =
    subst (λ word. IfSome all (λ words. option_map vec_items word ≡ slice_get words k)) c.in-Some.is
    c.in_ok-bytes.ensures in
    let text = c.in_ok-text_of.ensures ∙ ap word_text c.deref.ensures.value in
    words_step string_bytes all k (vec_items c.in-Some.bytes) c.loop-number.texts.items c.push.new.self.items
    c.in_ok-text_of.field-0 c.loop-number.invariant word text c.in_ok-push.ensures.items
