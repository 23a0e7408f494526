use Rattle.std.proofs.Common.{◌≡◌, List, ℕ, ◌++◌, ap, append_assoc, decimal, string_bytes, ◌∙◌}
use Rattle.std.specs.Prelude.{codes}
use Rattle.mp4_show.specs.Lines.{further, new_line, state_of, wrote}
use Rattle.mp4_show.specs.TextTrace.{with_more}
use Rattle.mp4_show.proofs.TextSteps.{two_pieces}
use Rattle.mp4_show.proofs.text_sink.TextSink.more_line.Goals as goal

pub returns : goal.returns
unfolding with_more
returns c =
    let s = state_of c.args.self.now in
    let line : state_of c.next_line.new.self ≡ new_line s (further s) =
    c.in_ok-next_line.ensures ∙ ap (new_line s) c.further.ensures in
    let front : string_bytes c.push_number.new.out ≡ codes ".. " ++ decimal c.args.more =
    two_pieces (string_bytes c.clear.new.self) (string_bytes c.push_str.new.self)
    (string_bytes c.push_number.new.out) (codes ".. ") (decimal c.args.more) c.clear.ensures.bytes
    c.in_ok-push_str.ensures.bytes c.in_ok-push_number.ensures.text in
    let text : string_bytes c.push_str-2.new.self ≡ codes ".. " ++ (decimal c.args.more ++ codes " more") =
    c.in_ok-push_str-2.ensures.bytes
    ∙ ap (λ (t : List ℕ). t ++ codes " more") front
    ∙ append_assoc (codes ".. ") (decimal c.args.more) (codes " more") in
    c.in_ok-write_piece.ensures ∙ (λ i. wrote (line i) (text i))
