use Rattle.std.proofs.Common.{◌≡◌, List, ℕ, ◌++◌, ap, decimal, rules, string_bytes, ◌∙◌}
use Rattle.std.specs.Prelude.{codes}
use Rattle.mp4_show.specs.Lines.{after_space, further, new_line, state_of, wrote}
use Rattle.mp4_show.specs.TextTrace.{last_list}
use Rattle.mp4_show.specs.declared.text_sink.OpenList.{OpenList}
use Rattle.mp4_show.proofs.TextSteps.{two_pieces}
use Rattle.mp4_show.proofs.text_sink.TextSink.number_line.Goals as goal

pub returns : goal.returns
returns c =
    let s = state_of c.args.self.now in
    let entry = c.last_list-list.result.shown in
    let line : state_of c.next_line.new.self ≡ new_line s (further s) =
    c.in_ok-next_line.ensures ∙ ap (new_line s) c.further.ensures in
    let put : string_bytes c.push.new.self ≡ string_bytes c.push_number.new.out ++ codes ":" = search rules in
    let piece : string_bytes c.push.new.self ≡ decimal entry ++ codes ":" =
    two_pieces (string_bytes c.clear.new.self) (string_bytes c.push_number.new.out) (string_bytes c.push.new.self)
    (decimal entry) (codes ":") c.clear.ensures.bytes c.in_ok-push_number.ensures.text put in
    let number : decimal entry ≡ decimal (last_list s.lists).shown =
    ap (λ (l : OpenList). decimal l.shown) c.last_list-list.ensures in
    let text : string_bytes c.push.new.self ≡ decimal (last_list s.lists).shown ++ codes ":" =
    piece ∙ ap (λ (t : List ℕ). t ++ codes ":") number in
    ap after_space (c.in_ok-write_piece.ensures ∙ (λ i. wrote (line i) (text i)))
