use Rattle.std.proofs.Common.{◌≡◌, ℕ, List, [], ◌∷◌, ◌++◌, ap, append_assoc, length, rules, string_bytes, subst, ◌∙◌}
use Rattle.std.specs.Str.{chars}
use Rattle.mp4_inspect.specs.TreeLines.{IsRestOf, head_text}
use Rattle.mp4_show.specs.Lines.{TextState, begun, state_of}
use Rattle.mp4_inspect.proofs.tree_text.put_box.Goals as goal

pub returns : goal.returns
returns g c =
    let look = c.args.look in
    let found = c.args.found.now in
    let head : string_bytes c.put_head.new.text ≡ head_text look found = c.in_ok-put_head.ensures in
    let column : c.columns.result ≡ length (chars (head_text look found)) =
    c.columns.ensures ∙ ap (λ (t : List ℕ). length (chars t)) (c.as_str.ensures.value ∙ head) in
    let rest = state_of c.put_rest.new.sink in
    let put : string_bytes c.push.new.self ≡ (string_bytes c.put_head.new.text ++ rest.text) ++ (10 ∷ []) =
    search rules in
    record {
      rest = rest;
      is_rest =
          subst (λ (s : TextState). IsRestOf g.B.BoxFields.shown found c.args.content.now s rest)
          (c.new-sink.ensures ∙ ap (begun look found.depth) column) c.in_ok-put_rest.ensures;
      is_text =
          put
          ∙ append_assoc (string_bytes c.put_head.new.text) rest.text (10 ∷ [])
          ∙ ap (λ (t : List ℕ). t ++ (rest.text ++ (10 ∷ []))) head;
    }
